-- The facts that live, each with its number, and each read from one of its sides to the other.
use Rattle.std.specs.Prelude.{ℕ, ◌+◌, ◌≤◌, ◌==◌, List, [], ◌∷◌, map, Option, Some, None, if◌then◌else◌}
use Rattle.uc_term.specs.Tree.{Tree}
use Rattle.uc_term.specs.declared.equation.Equation.{Equation}
use Rattle.uc_term.specs.declared.equation.Side.{Side}
use Rattle.uc_term.specs.declared.equation.Side.TheVariants.{Left, Right}
use Rattle.uc_fact.specs.declared.fact.Fact.{Fact}
use Rattle.uc_term.specs.Equations.{side_of, other_side_of}

-- the two sides of a fact
abbrev pub equation_of : Fact → Equation
equation_of fact = record { left = fact.left; right = fact.right }

-- a fact that lives: its number and its two sides
pub record Live : Type 0 where
  pub number : ℕ
  pub equation : Equation

-- each number is at least n and greater than those before it
abbrev pub RiseFrom : ℕ → List Live → Type 0
RiseFrom n [] = Unit {0}
RiseFrom n (f ∷ fs) = (n ≤ f.number) × RiseFrom (f.number + 1) fs

-- the numbers rise
abbrev pub AreRising : List Live → Type 0
AreRising fs = RiseFrom 0 fs

-- the two sides of the fact of a number
abbrev pub fact_at : List Live → ℕ → Option Equation
fact_at [] n = None
fact_at (f ∷ fs) n = if f.number == n then Some f.equation else fact_at fs n

-- the facts without their numbers
abbrev pub equations_of : List Live → List Equation
equations_of fs = map (λ f. f.equation) fs

-- equations numbered by their places, from n on
abbrev pub numbered_from : ℕ → List Equation → List Live
numbered_from n [] = []
numbered_from n (e ∷ es) = record { number = n; equation = e } ∷ numbered_from (n + 1) es

abbrev pub numbered : List Equation → List Live
numbered es = numbered_from 0 es

-- a fact read from one of its sides to the other
pub record Rule : Type 0 where
  pub number : ℕ
  pub side : Side
  pub from : Tree
  pub to : Tree

abbrev pub rule_of : Side → Live → Rule
rule_of side f = record { number = f.number; side = side; from = side_of side f.equation; to = other_side_of side f.equation }

-- each fact read from left to right and then from right to left, by the facts' numbers
abbrev pub rules_of : List Live → List Rule
rules_of [] = []
rules_of (f ∷ fs) = rule_of Left f ∷ rule_of Right f ∷ rules_of fs
