-- The pairs that bindings are: a binding has the place of its term among the nodes of all terms.
use Rattle.std.specs.Prelude.{ℕ, ◌≡◌, ◌-◌, ◌≤◌, List, map, length, drop, take, slice_get, Some}
use Rattle.uc_term.specs.declared.node.Node.{Node}
use Rattle.uc_term.specs.declared.subst.Binding.{Binding}
use Rattle.uc_term.specs.Tree.{Tree}
use Rattle.uc_term.specs.Flat.{tree_of, IsWhole}
use Rattle.uc_term.specs.Subst.{found}

-- the nodes of the binding's term
abbrev pub part_of : List Node → Binding → List Node
part_of ns b = take (b.end - b.start) (drop b.start ns)

abbrev pub pair_of : List Node → Binding → ℕ × Tree
pair_of ns b = (b.variable, tree_of (part_of ns b))

abbrev pub pairs_of : List Node → List Binding → List (ℕ × Tree)
pairs_of ns bs = map (pair_of ns) bs

-- the binding's term stands among the nodes
pub record IsBinding (ns : List Node) (b : Binding) : Type 0 where
  pub ordered : b.start ≤ b.end
  pub inside : b.end ≤ length ns
  pub whole : IsWhole (part_of ns b)
  pub short : length (part_of ns b) ≤ 4096

abbrev pub AreBindings : List Node → List Binding → Type 0
AreBindings ns bs = (i : ℕ) (b : Binding) → slice_get bs i ≡ Some b → IsBinding ns b

-- these are the nodes of the term that the variable has
pub record IsTermOf (pairs : List (ℕ × Tree)) (x : ℕ) (nodes : List Node) : Type 0 where
  pub whole : IsWhole nodes
  pub short : length nodes ≤ 4096
  pub is : found pairs x ≡ Some (tree_of nodes)
