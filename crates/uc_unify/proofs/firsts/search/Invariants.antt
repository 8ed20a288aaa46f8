use Rattle.std.proofs.Common.{◌≡◌, ℕ, ◌<◌, slice_get, Some}
use Rattle.uc_term.specs.declared.node.Node.TheVariants.{Var}
use Rattle.uc_unify.proofs.firsts.search.Given as goal

abbrev pub invariant-loop-p : goal.invariant-loop-p
invariant-loop-p l = (q : ℕ) → q < l.p → slice_get l.nodes q ≡ Some (Var l.x) → ⊥
