-- The flat prefix list of a term, and the terms that a list of nodes spells.
use Rattle.std.specs.Prelude.{◌≡◌, List, [], ◌∷◌, ◌++◌, take, drop}
use Rattle.uc_term.specs.declared.node.Node.{Node}
use Rattle.uc_term.specs.declared.node.Node.TheVariants.{Var, App}
use Rattle.uc_term.specs.Tree.{Tree, var, app, Trees, none, more, count, of_list}

abbrev mutual
  pub flat : Tree → List Node
  flat (var x) = Var x ∷ []
  flat (app f ts) = App f (count ts) ∷ flat_all ts

  pub flat_all : Trees → List Node
  flat_all none = []
  flat_all (more t ts) = flat t ++ flat_all ts

-- the terms that the nodes spell, one after another, read from the right
abbrev pub spelled : List Node → List Tree
spelled [] = []
spelled (Var x ∷ ns) = var x ∷ spelled ns
spelled (App f n ∷ ns) = app f (of_list (take n (spelled ns))) ∷ drop n (spelled ns)

-- the first of the terms that the nodes spell
abbrev pub first_of_trees : List Tree → Tree
first_of_trees [] = var 0
first_of_trees (t ∷ ts) = t

abbrev pub tree_of : List Node → Tree
tree_of ns = first_of_trees (spelled ns)

-- the nodes are the flat list of one whole term
abbrev pub IsWhole : List Node → Type 0
IsWhole ns = flat (tree_of ns) ≡ ns

-- the terms that the nodes spell, as arguments
abbrev pub trees_of : List Node → Trees
trees_of ns = of_list (spelled ns)

-- the nodes are the flat lists of whole terms, one after another
abbrev pub AreWhole : List Node → Type 0
AreWhole ns = flat_all (trees_of ns) ≡ ns
