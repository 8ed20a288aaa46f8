use Rattle.uc_table.proofs.SearchFollowing.{IsFollowed}
use Rattle.uc_table.proofs.search_instances.follow.Given as goal

abbrev pub invariant-loop-at : goal.invariant-loop-at
invariant-loop-at l = IsFollowed l.size l.prefix l.forms l.cell l.fn.waiting.entries.items l.waiting l.at

abbrev pub decreases-loop-at : goal.decreases-loop-at
decreases-loop-at l = l.at
