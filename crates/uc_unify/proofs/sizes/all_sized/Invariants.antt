use Rattle.std.proofs.Common.{◌≡◌, ℕ, ◌<◌, get_or}
use Rattle.uc_unify.specs.Closure.{class}
use Rattle.uc_unify.proofs.sizes.all_sized.Given as goal

abbrev pub invariant-loop-class : goal.invariant-loop-class
invariant-loop-class l = (p : ℕ) → p < l.class-index → get_or l.sizes (class l.classes p) 0 ≡ 0 → ⊥
