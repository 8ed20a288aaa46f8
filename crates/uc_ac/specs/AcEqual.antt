-- Terms that are equal up to brackets and order at associative and commutative symbols (Martin and Nipkow, Ordered rewriting
-- and confluence).
use Rattle.std.specs.Prelude.{ℕ, ◌≡◌, ◌==◌, List, [], ◌∷◌, ◌++◌, if◌then◌else◌}
use Rattle.uc_term.specs.declared.node.Sym.{Sym}
use Rattle.uc_term.specs.Tree.{Tree, var, app, Trees, none, more, list_of, count}
use Rattle.uc_order.specs.Members.{In}
use Rattle.uc_order.specs.Laws.{pair_of}
use Rattle.uc_ac.specs.Reordered.{IsReordered}

-- the maximal subterms that aren't headed by the binary symbol f, below a top part of f alone, from left to right
abbrev pub parts : Sym → Tree → List Tree
parts f (app g (more s (more t none))) = if g.0 == f.0 then parts f s ++ parts f t else app g (more s (more t none)) ∷ []
parts f t = t ∷ []

-- f stands before these arguments as one of the binary symbols
abbrev pub IsBinaryOf : List Sym → Sym → Trees → Type 0
IsBinaryOf symbols f ts = In symbols f × (count ts ≡ 2)

-- The two are one variable; or they have one head that isn't among the binary symbols, and their arguments are equal so one by
-- one; or they have one head f among them, and their lists of parts are equal so one by one after some reordering of one list.
mutual
  pub data AcEqual (symbols : List Sym) : Tree → Tree → Type 0 where
    same_variable : {x : ℕ} → AcEqual symbols (var x) (var x)
    same_head : {f : Sym} {ss ts : Trees} → (IsBinaryOf symbols f ss → ⊥) → AreAcEqual symbols (list_of ss) (list_of ts) → AcEqual symbols (app f ss) (app f ts)
    same_parts : {f : Sym} {a b c d : Tree} {us : List Tree} → In symbols f → IsReordered (parts f (pair_of f c d)) us → AreAcEqual symbols (parts f (pair_of f a b)) us → AcEqual symbols (pair_of f a b) (pair_of f c d)

  -- one by one
  pub data AreAcEqual (symbols : List Sym) : List Tree → List Tree → Type 0 where
    no_terms : AreAcEqual symbols [] []
    and_terms : {s t : Tree} {ss ts : List Tree} → AcEqual symbols s t → AreAcEqual symbols ss ts → AreAcEqual symbols (s ∷ ss) (t ∷ ts)
