use Rattle.std.proofs.Common.{ℕ, ◌<◌}
use Rattle.uc_term.specs.Tree.{subterm}
use Rattle.uc_unify.specs.Matching.{HasNoMatch}
use Rattle.uc_task.proofs.parts.has_part.Given as goal

abbrev pub invariant-loop-place : goal.invariant-loop-place
invariant-loop-place l = (p : ℕ) → p < l.place → HasNoMatch l.pattern (subterm l.term p)
