use Rattle.std.proofs.Common.{◌≡◌, ◌∙◌, ap, ◌+◌, ◌-◌, ◌≤◌, length, take, drop, refl, arith}
use Rattle.uc_table.specs.Algebras.{place_of}
use Rattle.uc_table.proofs.SearchRuns.{takes_value}
use Rattle.uc_table.proofs.search_steps.take_step.Goals as goal

pub returns-else-cell-prefix : goal.returns-else-cell-prefix
returns-else-cell-prefix c =
    let top = c.args.top in
    let n = c.in-Apply.arguments in
    let stack = c.args.stack.now in
    let w : top + n ≤ length stack = omega arith in
    let m : top + n - top ≡ n = omega arith in
    let e : c.place_of.result ≡ place_of c.args.size (take n (drop top stack)) = c.place_of.ensures.place ∙ ap (λ k. place_of c.args.size (take k (drop top stack))) m in
    let l = c.if-cell-prefix.false in
    rw c.in-Apply.is (takes_value c.args.size c.args.assignment c.args.prefix.now stack top c.in-Apply.first n c.place_of.result c.requires.room w e _ l refl c.requires.prefix c.requires.live)
