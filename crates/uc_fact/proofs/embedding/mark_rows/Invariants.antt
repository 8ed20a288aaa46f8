use Rattle.std.proofs.Common.{◌≤◌, length}
use Rattle.uc_fact.specs.Embedding.{AreMarked}
use Rattle.uc_fact.proofs.embedding.mark_rows.Given as goal

abbrev pub invariant-loop-p : goal.invariant-loop-p
invariant-loop-p l = AreMarked l.s l.t l.table × (l.p ≤ length l.s)

abbrev pub decreases-loop-p : goal.decreases-loop-p
decreases-loop-p l = l.p
