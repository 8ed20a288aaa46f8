-- Ground steps at the root by facts that live, with the facts' numbers.
use Rattle.std.proofs.Common.{◌≡◌, ℕ, zero, suc, ◌+◌, ◌≤◌, ◌==◌, true, false, List, [], ◌∷◌, slice_get, Some, refl, ap, ◌∙◌, arith}
use Rattle.std.proofs.lemmas.Bool.Decides.{nat_tests}
use Rattle.uc_term.specs.declared.equation.Equation.{Equation}
use Rattle.uc_term.specs.declared.equation.Side.{Side}
use Rattle.uc_term.specs.Equations.{side_of, other_side_of}
use Rattle.uc_term.specs.Tree.{Tree, apply}
use Rattle.uc_term.specs.Conversion.{Turn}
use Rattle.uc_fact.specs.Live.{Live, RiseFrom, AreRising, fact_at, equations_of}

-- a fact whose equation has a place has a number
record Number (from : ℕ) (live : List Live) (e : Equation) : Type 0 where
  number : ℕ
  low : from ≤ number
  there : fact_at live number ≡ Some e

here : (f : Live) (fs : List Live) → fact_at (f ∷ fs) f.number ≡ Some f.equation
here f fs = let e : (f.number == f.number) ≡ true = grind (arith, nat_tests) in rw e refl

past : (f : Live) (fs : List Live) (k : ℕ) → f.number + 1 ≤ k → fact_at (f ∷ fs) k ≡ fact_at fs k
past f fs k h = let e : (f.number == k) ≡ false = grind (arith, nat_tests) in rw e refl

number_at : (live : List Live) (from place : ℕ) (e : Equation) → RiseFrom from live → slice_get (equations_of live) place ≡ Some e → Number from live e
number_at [] from place e r h = absurd cc
number_at (f ∷ fs) from zero e r h = record { number = f.number; low = r.0; there = here f fs ∙ h }
number_at (f ∷ fs) from (suc place) e r h =
    let n = number_at fs (f.number + 1) place e r.1 h in
    record { number = n.number; low = omega (arith, n.low, r.0); there = past f fs n.number n.low ∙ n.there }

-- u and v are the two sides of one instance of a fact that lives, read from this side
pub record Reading (live : List Live) (u v : Tree) : Type 0 where
  pub place : ℕ
  pub number : ℕ
  pub side : Side
  pub equation : Equation
  pub is_there : slice_get (equations_of live) place ≡ Some equation
  pub lives : fact_at live number ≡ Some equation
  pub σ : ℕ → Tree
  pub u_is : u ≡ apply σ (side_of side equation)
  pub v_is : v ≡ apply σ (other_side_of side equation)

pub reading : (live : List Live) → AreRising live → (u v : Tree) → Turn (equations_of live) u v → Reading live u v
reading live r u v t =
    let n = number_at live 0 t.number t.sides.equation r t.sides.equation_is in
    record {
      place = t.number;
      number = n.number;
      side = t.side;
      equation = t.sides.equation;
      is_there = t.sides.equation_is;
      lives = n.there;
      σ = t.σ;
      u_is = t.u_is ∙ ap (apply t.σ) t.sides.left_is;
      v_is = t.v_is ∙ ap (apply t.σ) t.sides.right_is;
    }

-- the sides of an instance of an equation at a place
pub turn_of : (es : List Equation) (place : ℕ) (side : Side) (e : Equation) → slice_get es place ≡ Some e → (σ : ℕ → Tree) → Turn es (apply σ (side_of side e)) (apply σ (other_side_of side e))
turn_of es place side e h σ = record { number = place; side = side; l = side_of side e; r = other_side_of side e; sides = record { equation = e; equation_is = h; left_is = refl; right_is = refl }; σ = σ; u_is = refl; v_is = refl }
