-- A term is a variable with a number, or a symbol with a list of terms.
use Rattle.std.specs.Prelude.{slice_index_or, ℕ, zero, suc, ◌+◌, ◌-◌, nat_lt, List, [], ◌∷◌, ◌++◌, if◌then◌else◌}
use Rattle.uc_term.specs.declared.node.Sym.{Sym}

mutual
  pub data Tree : Type 0 where
    var : ℕ → Tree
    app : Sym → Trees → Tree

  pub data Trees : Type 0 where
    none : Trees
    more : Tree → Trees → Trees

-- the list of them
abbrev pub list_of : Trees → List Tree
list_of none = []
list_of (more t ts) = t ∷ list_of ts

abbrev pub of_list : List Tree → Trees
of_list [] = none
of_list (t ∷ ts) = more t (of_list ts)

abbrev pub count : Trees → ℕ
count none = 0
count (more t ts) = count ts + 1

-- every variable replaced
abbrev mutual
  pub apply : (ℕ → Tree) → Tree → Tree
  apply σ (var x) = σ x
  apply σ (app f ts) = app f (apply_all σ ts)

  pub apply_all : (ℕ → Tree) → Trees → Trees
  apply_all σ none = none
  apply_all σ (more t ts) = more (apply σ t) (apply_all σ ts)

-- all subterms, in prefix order: the term itself, then those of its arguments from left to right
abbrev mutual
  pub subterms : Tree → List Tree
  subterms (var x) = var x ∷ []
  subterms (app f ts) = app f ts ∷ subterms_all ts

  pub subterms_all : Trees → List Tree
  subterms_all none = []
  subterms_all (more t ts) = subterms t ++ subterms_all ts

abbrev mutual
  pub nodes : Tree → ℕ
  nodes (var x) = 1
  nodes (app f ts) = nodes_all ts + 1

  pub nodes_all : Trees → ℕ
  nodes_all none = 0
  nodes_all (more t ts) = nodes t + nodes_all ts

-- the term with its subterm at a place in prefix order replaced
abbrev mutual
  pub put : Tree → ℕ → Tree → Tree
  put (var x) p u = u
  put (app f ts) zero u = u
  put (app f ts) (suc p) u = app f (put_all ts p u)

  pub put_all : Trees → ℕ → Tree → Trees
  put_all none p u = none
  put_all (more t ts) p u = if nat_lt p (nodes t) then more (put t p u) ts else more t (put_all ts (p - nodes t) u)

-- the subterm at a place in prefix order; the term itself past the end
abbrev pub subterm : Tree → ℕ → Tree
subterm t p = slice_index_or (subterms t) p t
