use Rattle.std.proofs.Common.{◌≡◌, length, sym, ap, ◌∙◌, arith}
use Rattle.uc_queue.specs.Queue.{Queue}
use Rattle.uc_queue.proofs.Members.{length_by_number}
use Rattle.uc_queue.proofs.passive.Passive.len.Goals as goal

pub returns : goal.returns
returns c =
    let n : c.len.result ≡ length c.self.inside.entries.items = omega arith in
    n ∙ (sym (length_by_number c.self.inside.entries.items) ∙ ap (λ (q : Queue). length q.waiting) c.self.view_is)
