-- Equations are directed in one way, and have one list of lines.
use Rattle.std.proofs.Common.{ℕ, ◌≡◌, List, ◌++◌, refl, sym, ap₂}
use Rattle.uc_term.specs.declared.equation.Equation.{Equation}
use Rattle.uc_term.specs.Tree.{Tree}
use Rattle.uc_term.specs.Table.{Table}
use Rattle.uc_order.specs.declared.order.Cmp.{Cmp}
use Rattle.uc_order.specs.declared.order.Cmp.TheVariants.{Greater, Less, Equal, Unknown}
use Rattle.uc_order.specs.Laws.{Meaning}
use Rattle.uc_answer.specs.Directions.{Compares, directed_line, AreDirected, none_left, one_line}

module _ (m : Meaning) (s t : Tree) where
  -- where one comparison isn't Unknown, another is the same
  known_once : (a b : Cmp) → Compares m s t a → Compares m s t b → (a ≡ Unknown → ⊥) → b ≡ a
  known_once Greater b x y n = y.greater.1 (x.greater.0 refl)
  known_once Less b x y n = y.less.1 (x.less.0 refl)
  known_once Equal b x y n = y.equal.1 (x.equal.0 refl)
  known_once Unknown b x y n = absurd (n refl)

  pub compares_once : (a b : Cmp) → Compares m s t a → Compares m s t b → a ≡ b
  compares_once Greater b x y = sym (known_once Greater b x y (λ e. cc))
  compares_once Less b x y = sym (known_once Less b x y (λ e. cc))
  compares_once Equal b x y = sym (known_once Equal b x y (λ e. cc))
  compares_once Unknown Greater x y = known_once Greater Unknown y x (λ e. cc)
  compares_once Unknown Less x y = known_once Less Unknown y x (λ e. cc)
  compares_once Unknown Equal x y = known_once Equal Unknown y x (λ e. cc)
  compares_once Unknown Unknown x y = refl

module _ (table : Table) where
  pub directed_once : (m : Meaning) {number : ℕ} {es : List Equation} {a b : List ℕ} → AreDirected table m number es a → AreDirected table m number es b → a ≡ b
  directed_once m none_left none_left = refl
  directed_once m {number = number} (one_line cmp {e = e} x xs) (one_line other y ys) = ap₂ (λ c lines. directed_line table number c e ++ lines) (compares_once m e.left e.right cmp other x y) (directed_once m xs ys)
