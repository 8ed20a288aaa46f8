-- The nodes of the sides of the laws.
use Rattle.std.proofs.Common.{◌≡◌, List, [], ◌∷◌, get_or, refl, sym, subst, subst₂}
use Rattle.uc_term.specs.declared.node.Sym.{Sym}
use Rattle.uc_term.specs.declared.node.Node.{Node}
use Rattle.uc_term.specs.declared.node.Node.TheVariants.{Var, App}
use Rattle.uc_term.specs.Tree.{Tree}
use Rattle.uc_term.specs.Flat.{flat, tree_of, IsWhole}
use Rattle.uc_ac.specs.declared.ac_law.AcLaw.{AcLaw}
use Rattle.uc_ac.specs.declared.ac_law.AcLaw.TheVariants.{Assoc, Comm, Extended}
use Rattle.uc_ac.specs.AcLaw.{AreSides, assoc_sides, comm_sides, extended_sides, AreTwoVariables, AreVariables}

abbrev pub left_nested : Sym → Node → Node → Node → List Node
left_nested f x y z = App f 2 ∷ App f 2 ∷ x ∷ y ∷ z ∷ []

abbrev pub right_nested : Sym → Node → Node → Node → List Node
right_nested f x y z = App f 2 ∷ x ∷ App f 2 ∷ y ∷ z ∷ []

abbrev pub one_pair : Sym → Node → Node → List Node
one_pair f x y = App f 2 ∷ x ∷ y ∷ []

module _ (f : Sym) (from to : List Node) (d : Node) where
  abbrev pub AssocNodes : List Node → Type 0
  AssocNodes l = (l ≡ left_nested f (get_or l 2 d) (get_or l 3 d) (get_or l 4 d)) × (to ≡ right_nested f (get_or l 2 d) (get_or l 3 d) (get_or l 4 d)) × AreVariables (get_or l 2 d) (get_or l 3 d) (get_or l 4 d)

  abbrev pub CommNodes : List Node → Type 0
  CommNodes l = (l ≡ one_pair f (get_or l 1 d) (get_or l 2 d)) × (to ≡ one_pair f (get_or l 2 d) (get_or l 1 d)) × AreTwoVariables (get_or l 1 d) (get_or l 2 d)

  abbrev pub ExtendedNodes : List Node → Type 0
  ExtendedNodes l = (l ≡ right_nested f (get_or l 1 d) (get_or l 3 d) (get_or l 4 d)) × (to ≡ right_nested f (get_or l 3 d) (get_or l 1 d) (get_or l 4 d)) × AreVariables (get_or l 1 d) (get_or l 3 d) (get_or l 4 d)

  assoc_of : (s t : Tree) → AreSides f Assoc s t → flat s ≡ from → flat t ≡ to → AssocNodes from
  assoc_of _ _ (assoc_sides p q r) e h = subst AssocNodes e (refl, sym h, (p, q, r))

  comm_of : (s t : Tree) → AreSides f Comm s t → flat s ≡ from → flat t ≡ to → CommNodes from
  comm_of _ _ (comm_sides p) e h = subst CommNodes e (refl, sym h, p)

  extended_of : (s t : Tree) → AreSides f Extended s t → flat s ≡ from → flat t ≡ to → ExtendedNodes from
  extended_of _ _ (extended_sides p q r) e h = subst ExtendedNodes e (refl, sym h, (p, q, r))

  module _ (w : IsWhole from) (v : IsWhole to) where
    pub assoc_nodes : AreSides f Assoc (tree_of from) (tree_of to) → AssocNodes from
    assoc_nodes s = assoc_of (tree_of from) (tree_of to) s w v

    pub comm_nodes : AreSides f Comm (tree_of from) (tree_of to) → CommNodes from
    comm_nodes s = comm_of (tree_of from) (tree_of to) s w v

    pub extended_nodes : AreSides f Extended (tree_of from) (tree_of to) → ExtendedNodes from
    extended_nodes s = extended_of (tree_of from) (tree_of to) s w v

sides_assoc : (f : Sym) (x y z : Node) → AreVariables x y z → AreSides f Assoc (tree_of (left_nested f x y z)) (tree_of (right_nested f x y z))
sides_assoc f (Var x) (Var y) (Var z) v = assoc_sides v.0 v.1 v.2
sides_assoc f (Var x) (Var y) (App g m) v = absurd v.1
sides_assoc f (Var x) (App g m) z v = absurd v.0
sides_assoc f (App g m) y z v = absurd v.0

sides_comm : (f : Sym) (x y : Node) → AreTwoVariables x y → AreSides f Comm (tree_of (one_pair f x y)) (tree_of (one_pair f y x))
sides_comm f (Var x) (Var y) v = comm_sides v
sides_comm f (Var x) (App g m) v = absurd v
sides_comm f (App g m) y v = absurd v

sides_extended : (f : Sym) (x y z : Node) → AreVariables x y z → AreSides f Extended (tree_of (right_nested f x y z)) (tree_of (right_nested f y x z))
sides_extended f (Var x) (Var y) (Var z) v = extended_sides v.0 v.1 v.2
sides_extended f (Var x) (Var y) (App g m) v = absurd v.1
sides_extended f (Var x) (App g m) z v = absurd v.0
sides_extended f (App g m) y z v = absurd v.0

module _ (f : Sym) (from to : List Node) where
  abbrev Sides : AcLaw → List Node → List Node → Type 0
  Sides law l r = AreSides f law (tree_of l) (tree_of r)

  pub are_assoc_sides : (x y z : Node) → from ≡ left_nested f x y z → to ≡ right_nested f x y z → AreVariables x y z → Sides Assoc from to
  are_assoc_sides x y z e h v = subst₂ (Sides Assoc) (sym e) (sym h) (sides_assoc f x y z v)

  pub are_comm_sides : (x y : Node) → from ≡ one_pair f x y → to ≡ one_pair f y x → AreTwoVariables x y → Sides Comm from to
  are_comm_sides x y e h v = subst₂ (Sides Comm) (sym e) (sym h) (sides_comm f x y v)

  pub are_extended_sides : (x y z : Node) → from ≡ right_nested f x y z → to ≡ right_nested f y x z → AreVariables x y z → Sides Extended from to
  are_extended_sides x y z e h v = subst₂ (Sides Extended) (sym e) (sym h) (sides_extended f x y z v)
