use Rattle.std.proofs.Common.{◌≤◌, length}
use Rattle.uc_fact.specs.Embedding.{AreMarked}
use Rattle.uc_fact.proofs.embedding.mark_row.Given as goal

abbrev pub invariant-loop-q : goal.invariant-loop-q
invariant-loop-q l = AreMarked l.s l.t l.table × (l.q ≤ length l.t)

abbrev pub decreases-loop-q : goal.decreases-loop-q
decreases-loop-q l = l.q
