use Rattle.std.proofs.Common.{◌≡◌, ◌<◌, ℕ, slice_get, Some}
use Rattle.uc_term.specs.declared.subst.Binding.{Binding}
use Rattle.uc_term.specs.Subst.{Moves}
use Rattle.uc_term.specs.Bindings.{part_of}
use Rattle.uc_term.proofs.subst.Subst.is_idempotent.Given as goal

abbrev pub invariant-loop-binding : goal.invariant-loop-binding
invariant-loop-binding l = (i : ℕ) (b : Binding) → i < l.binding-index → slice_get l.binding-items i ≡ Some b → Moves l.self (part_of l.self-inside.nodes.items b) → ⊥
