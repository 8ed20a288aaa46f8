use Rattle.std.proofs.Common.{◌<◌, length, sym, ◌∙◌}
use Rattle.uc_queue.proofs.Roots.{root_least, not_empty}
use Rattle.uc_queue.proofs.tree.root.Goals as goal

pub returns-else-is_empty : goal.returns-else-is_empty
returns-else-is_empty c =
    let some : 0 < length c.args.entries.now = not_empty c.args.entries.now (sym c.is_empty.ensures ∙ c.if-is_empty.false) in
    rw (c.winner_at.ensures.winner) (root_least c.args.key c.args.entries.now c.args.winners.now c.requires.right c.requires.room c.requires.distinct some)
