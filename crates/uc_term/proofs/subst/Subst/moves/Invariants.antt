use Rattle.std.proofs.Common.{◌≡◌, ◌<◌, ℕ, slice_get, Some}
use Rattle.uc_term.specs.declared.node.Node.{Node}
use Rattle.uc_term.specs.Subst.{HasPair}
use Rattle.uc_term.proofs.subst.Subst.moves.Given as goal

abbrev pub invariant-loop-node : goal.invariant-loop-node
invariant-loop-node l = (i : ℕ) (n : Node) → i < l.node-index → slice_get l.nodes i ≡ Some n → HasPair l.self n → ⊥
