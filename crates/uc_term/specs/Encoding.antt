-- The encoding of goals as equations: eq(X,X) = true, and eq(s,t) = false for each goal of s and t.
use Rattle.std.specs.Prelude.{◌≡◌, ◌==◌, ℕ, List, ◌∷◌, ◌++◌, map, slice_get, Some, if◌then◌else◌}
use Rattle.uc_term.specs.declared.node.Sym.{Sym}
use Rattle.uc_term.specs.declared.fresh.Fresh.{Fresh}
use Rattle.uc_term.specs.declared.equation.Equation.{Equation}
use Rattle.uc_term.specs.Tree.{Tree, var, app, Trees, none, more}

-- what a symbol is to the encoding
pub data Part : Type 0 where
  ordinary is_yes is_no is_eq : Part

abbrev pub part : Fresh → Sym → Part
part m f = if f.0 == m.yes.0 then is_yes else if f.0 == m.no.0 then is_no else if f.0 == m.eq.0 then is_eq else ordinary

-- the three symbols are different
pub record AreDistinct (m : Fresh) : Type 0 where
  pub eq_is : part m m.eq ≡ is_eq
  pub yes_is : part m m.yes ≡ is_yes
  pub no_is : part m m.no ≡ is_no

module _ (m : Fresh) where
  -- none of the three occurs in it
  abbrev mutual
    pub Lacks : Tree → Type 0
    Lacks (var x) = Unit {0}
    Lacks (app f ts) = (part m f ≡ ordinary) × AllLack ts

    pub AllLack : Trees → Type 0
    AllLack none = Unit {0}
    AllLack (more t ts) = Lacks t × AllLack ts

  -- none of the three occurs in any of them
  abbrev pub LackAll : List Equation → Type 0
  LackAll es = (i : ℕ) (e : Equation) → slice_get es i ≡ Some e → Lacks e.left × Lacks e.right

  abbrev pub yes_term : Tree
  yes_term = app m.yes none

  abbrev pub no_term : Tree
  no_term = app m.no none

  abbrev pub pair_term : Tree → Tree → Tree
  pair_term s t = app m.eq (more s (more t none))

  -- eq(X,X) = true
  abbrev pub reflexive : Equation
  reflexive = record { left = pair_term (var 0) (var 0); right = yes_term }

  -- eq(s,t) = false
  abbrev pub refuted : Equation → Equation
  refuted g = record { left = pair_term g.left g.right; right = no_term }

  -- the axioms, and the goals as equations behind them
  abbrev pub encoded : List Equation → List Equation → List Equation
  encoded axioms goals = axioms ++ reflexive ∷ map refuted goals

-- there is a goal
pub record HasGoal (goals : List Equation) : Type 0 where
  pub number : ℕ
  pub goal : Equation
  pub goal_is : slice_get goals number ≡ Some goal
