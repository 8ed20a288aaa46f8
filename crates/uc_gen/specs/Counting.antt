-- How many classes terms fall into, and how many different normal forms they have.
use Rattle.std.specs.Prelude.{ℕ, ◌≡◌, ◌↔◌, List, [], ◌∷◌, length, map}
use Rattle.uc_term.specs.declared.node.Sym.{Sym}
use Rattle.uc_term.specs.declared.equation.Equation.{Equation}
use Rattle.uc_term.specs.Tree.{Tree, app, none}
use Rattle.uc_order.specs.Members.{In, AreDistinct}
use Rattle.uc_order.specs.Laws.{Meaning, HasSym, IsGroundOf}
use Rattle.uc_decide.specs.NormalForms.{HasNormalForm}

abbrev pub constant_term : Sym → Tree
constant_term c = app c none

abbrev pub constant_terms : List Sym → List Tree
constant_terms constants = map constant_term constants

-- CLASSES

-- none of the terms is related to one behind it
abbrev pub AreUnrelated : (Tree → Tree → Type 0) → List Tree → Type 0
AreUnrelated R [] = Unit {0}
AreUnrelated R (t ∷ ts) = ((u : Tree) → In ts u → R t u → ⊥) × AreUnrelated R ts

-- The terms fall into so many classes: one of each can be chosen, so that no two of those that are chosen are related, and each of
-- the terms is related to one of them.
pub record HasClasses (R : Tree → Tree → Type 0) (terms : List Tree) (count : ℕ) : Type 0 where
  pub chosen : List Tree
  pub as_many : length chosen ≡ count
  pub among : (t : Tree) → In chosen t → In terms t
  pub unrelated : AreUnrelated R chosen
  pub each : (t : Tree) → In terms t → (c : Tree) × In chosen c × R t c

-- NORMAL FORMS

-- The terms have so many different normal forms by ground steps of the equations: these, no two of which are equal, and no others.
pub record HasForms (m : Meaning) (es : List Equation) (terms : List Tree) (count : ℕ) : Type 0 where
  pub forms : List Tree
  pub as_many : length forms ≡ count
  pub distinct : AreDistinct forms
  pub are_theirs : (n : Tree) → In forms n ↔ ((t : Tree) × In terms t × HasNormalForm m es t n)

-- CONSTANTS

-- The symbols are constants of the order's signature, all different, and a ground term that is less than one of them is one of them.
pub record AreLowest (m : Meaning) (constants : List Sym) : Type 0 where
  pub known : (c : Sym) → In constants c → HasSym m c × (m.arity c ≡ 0)
  pub distinct : AreDistinct constants
  pub lowest : (c : Sym) (t : Tree) → In constants c → IsGroundOf m t → m.greater (constant_term c) t → In (constant_terms constants) t
