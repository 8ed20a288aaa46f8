-- What a system of equations decides: which equations of ground terms follow from the axioms.
use Rattle.std.specs.Prelude.{ℕ, ◌≡◌, ◌⊎◌, ◌↔◌, List, slice_get, Some}
use mathlib.Core.WellFounded.{Acc}
use Rattle.uc_term.specs.declared.equation.Equation.{Equation}
use Rattle.uc_term.specs.Tree.{Tree}
use Rattle.uc_term.specs.Conversion.{Conv}
use Rattle.uc_order.specs.Laws.{Meaning, IsGroundOf}
use Rattle.uc_fact.specs.Ordered.{IsIrreducible}
use Rattle.uc_decide.specs.NormalForms.{HasNormalForm, HasOneNormalForm}

-- on ground terms, what is greater is total, and no chain falls for ever
pub record IsWellOrder (m : Meaning) : Type 0 where
  pub total : (s t : Tree) → IsGroundOf m s → IsGroundOf m t → m.greater s t ⊎ ((s ≡ t) ⊎ m.greater t s)
  pub well_founded : (t : Tree) → IsGroundOf m t → Acc (λ u v. IsGroundOf m u × m.greater v u) t

-- The equations decide what follows from the axioms, for the ground terms over the order's signature: the order is a
-- well-order; every term has exactly one normal form; two terms have the same one exactly if their equation follows from the
-- axioms; and it is less than any other term to which the axioms make the term equal.
pub record Decides (m : Meaning) (es axioms : List Equation) : Type 0 where
  pub well_order : IsWellOrder m
  pub one_normal_form : (u : Tree) → IsGroundOf m u → HasOneNormalForm m es u
  pub shared : (u v n k : Tree) → IsGroundOf m u → IsGroundOf m v → HasNormalForm m es u n → HasNormalForm m es v k → (n ≡ k) ↔ Conv axioms u v
  pub least : (u v n : Tree) → IsGroundOf m u → IsGroundOf m v → HasNormalForm m es u n → Conv axioms u v → (n ≡ v) ⊎ m.greater v n

-- n is the least of the ground terms to which the axioms make u equal
pub record IsLeastOf (m : Meaning) (axioms : List Equation) (u n : Tree) : Type 0 where
  pub ground : IsGroundOf m n
  pub equal : Conv axioms u n
  pub least : (v : Tree) → IsGroundOf m v → Conv axioms u v → (n ≡ v) ⊎ m.greater v n

-- the axioms make the two sides of a ground equation equal to two different ground terms, from which no ordered step leads on
pub record AreApart (m : Meaning) (es axioms : List Equation) (s t : Tree) : Type 0 where
  pub s_ground : IsGroundOf m s
  pub t_ground : IsGroundOf m t
  pub left : Tree
  pub right : Tree
  pub left_ground : IsGroundOf m left
  pub right_ground : IsGroundOf m right
  pub left_equal : Conv axioms s left
  pub right_equal : Conv axioms t right
  pub left_stays : IsIrreducible m.greater m.least es left
  pub right_stays : IsIrreducible m.greater m.least es right
  pub differ : left ≡ right → ⊥

-- so they do with the sides of each of the equations
abbrev pub AreAllApart : Meaning → List Equation → List Equation → List Equation → Type 0
AreAllApart m es axioms goals = (number : ℕ) (goal : Equation) → slice_get goals number ≡ Some goal → AreApart m es axioms goal.left goal.right
