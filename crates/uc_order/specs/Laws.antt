-- What an order on terms says, and the laws that it keeps (Baader and Nipkow, Term Rewriting and All That, chapter 5).
use Rattle.std.specs.Prelude.{ℕ, ◌≡◌, ◌⊎◌, List}
use mathlib.Core.WellFounded.{Acc}
use Rattle.uc_term.specs.declared.node.Sym.{Sym}
use Rattle.uc_term.specs.Tree.{Tree, app, Trees, none, more, apply}
use Rattle.uc_term.specs.Over.{IsGround}
use Rattle.uc_term.specs.Within.{Within}
use Rattle.uc_order.specs.Members.{In}
use Rattle.uc_order.specs.VarOrders.{Classes, HasOnly, Respects}

-- the symbols of the signature with their arities, what is greater, what is greater under an order of variables, and the
-- least constant
pub record Meaning : Type 1 where
  pub symbols : List Sym
  pub arity : Sym → ℕ
  pub greater : Tree → Tree → Type 0
  pub under : Classes → Tree → Tree → Type 0
  pub least : Sym

-- the signature has this symbol
abbrev pub HasSym : Meaning → Sym → Type 0
HasSym m = In m.symbols

-- the term is ground, over the signature
abbrev pub IsGroundOf : Meaning → Tree → Type 0
IsGroundOf m = IsGround (HasSym m) m.arity

abbrev pub least_term : Meaning → Tree
least_term m = app m.least none

abbrev pub pair_of : Sym → Tree → Tree → Tree
pair_of f s t = app f (more s (more t none))

mutual
  -- t is a subterm of s, and not s itself
  pub data Inside : Tree → Tree → Type 0 where
    inside : {f : Sym} {ss : Trees} {t : Tree} → InsideOne ss t → Inside (app f ss) t

  pub data InsideOne : Trees → Tree → Type 0 where
    is_first : {t : Tree} {ss : Trees} → InsideOne (more t ss) t
    in_first_one : {s t : Tree} {ss : Trees} → Inside s t → InsideOne (more s ss) t
    in_later_one : {s t : Tree} {ss : Trees} → InsideOne ss t → InsideOne (more s ss) t

-- the laws for a binary symbol: its brackets to the left are greater, and greater arguments first
pub record BinaryLaws (m : Meaning) (f : Sym) : Type 0 where
  pub brackets : (x y z : Tree) → IsGroundOf m x → IsGroundOf m y → IsGroundOf m z → m.greater (pair_of f (pair_of f x y) z) (pair_of f x (pair_of f y z))
  pub swapped : (x y : Tree) → IsGroundOf m x → IsGroundOf m y → m.greater x y → m.greater (pair_of f x y) (pair_of f y x)
  pub swapped_inside : (x y z : Tree) → IsGroundOf m x → IsGroundOf m y → IsGroundOf m z → m.greater x y → m.greater (pair_of f x (pair_of f y z)) (pair_of f y (pair_of f x z))

-- Greater is an order on all terms that instances and contexts keep and subterms fall under; on ground terms it is total
-- and no chain falls for ever; and the least constant is the least ground term.
pub record Laws (m : Meaning) : Type 0 where
  pub irreflexive : (t : Tree) → m.greater t t → ⊥
  pub transitive : (s t u : Tree) → m.greater s t → m.greater t u → m.greater s u
  pub instances : (σ : ℕ → Tree) (s t : Tree) → m.greater s t → m.greater (apply σ s) (apply σ t)
  pub contexts : (s t : Tree) → Within m.greater s t → m.greater s t
  pub subterms : (s t : Tree) → Inside s t → m.greater s t
  pub total : (s t : Tree) → IsGroundOf m s → IsGroundOf m t → m.greater s t ⊎ ((s ≡ t) ⊎ m.greater t s)
  pub well_founded : (t : Tree) → IsGroundOf m t → Acc (λ u v. IsGroundOf m u × m.greater v u) t
  pub least_is : HasSym m m.least × (m.arity m.least ≡ 0)
  pub bottom : (t : Tree) → IsGroundOf m t → (t ≡ least_term m) ⊎ m.greater t (least_term m)
  -- what is greater under an order of variables is greater in every ground instance that respects it
  pub under_holds : (cs : Classes) (σ : ℕ → Tree) (s t : Tree) → HasOnly cs s → HasOnly cs t → Respects m.greater σ cs → IsGroundOf m (apply σ s) → IsGroundOf m (apply σ t) → m.under cs s t → m.greater (apply σ s) (apply σ t)
  -- what is greater is so under every order of variables
  pub refined : (cs : Classes) (s t : Tree) → m.greater s t → m.under cs s t
  -- under an order of variables only one of two terms is greater
  pub one_way : (cs : Classes) (s t : Tree) → m.under cs s t → m.under cs t s → ⊥
  pub binary : (f : Sym) → HasSym m f → m.arity f ≡ 2 → BinaryLaws m f
