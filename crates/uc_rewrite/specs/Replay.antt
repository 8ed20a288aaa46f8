-- When a chain replays: each of its steps replaces equals by equals, by the equation that it names (Birkhoff's replacement of
-- equals).
use Rattle.std.specs.Prelude.{ℕ, ◌≡◌, Bool, List, [], ◌∷◌, ◌++◌, map, slice_get, take, Option, Some, if◌then◌else◌}
use Rattle.uc_term.specs.declared.equation.Equation.{Equation}
use Rattle.uc_term.specs.declared.equation.Side.{Side}
use Rattle.uc_term.specs.declared.equation.Side.TheVariants.{Left, Right}
use Rattle.uc_term.specs.Tree.{Tree}
use Rattle.uc_term.specs.Equations.{side_of, other_side_of}
use Rattle.uc_unify.specs.Replacing.{ReplacesAt}
use Rattle.uc_fact.specs.declared.chain.By.{By}
use Rattle.uc_fact.specs.declared.chain.By.TheVariants.{Axiom, Fact as FactOf}
use Rattle.uc_fact.specs.declared.chain.Step.{Step}
use Rattle.uc_fact.specs.declared.chain.Chain.{Chain}
use Rattle.uc_fact.specs.declared.fact.Fact.{Fact}
use Rattle.uc_fact.specs.Live.{equation_of}
use Rattle.uc_fact.specs.Chains.{last_term, end_of}

-- the equations that steps may name: the axioms, and the facts' equations behind them
abbrev pub equations : List Equation → List Fact → List Equation
equations axioms facts = axioms ++ map equation_of facts

-- the equation that is named: that axiom, or that fact's, where there is one of this number
abbrev pub named : List Equation → List Fact → By → Option Equation
named axioms facts (Axiom number) = slice_get axioms number
named axioms facts (FactOf number) = slice_get (map equation_of facts) number

-- the side of its equation that a step replaces
abbrev pub replaced_side : Bool → Side
replaced_side left_to_right = if left_to_right then Left else Right

module _ (axioms : List Equation) (facts : List Fact) where
  -- the step replaces equals by equals in the term before it: by the equation that it names, the named way and at the named
  -- place
  pub record IsReplacement (before : Tree) (step : Step) : Type 0 where
    pub equation : Equation
    pub equation_is : named axioms facts step.by ≡ Some equation
    pub replaces : ReplacesAt (side_of (replaced_side step.left_to_right) equation) (other_side_of (replaced_side step.left_to_right) equation) before step.position.0 step.to

  -- each of the steps does, the first one in this term and each later one in the term behind the one before it
  abbrev pub AreReplacements : Tree → List Step → Type 0
  AreReplacements before [] = Unit {0}
  AreReplacements before (step ∷ steps) = IsReplacement before step × AreReplacements step.to steps

  abbrev pub Replays : Chain → Type 0
  Replays chain = AreReplacements chain.start chain.steps

-- the terms from which and to which a chain leads
abbrev pub ends : Chain → Tree × Tree
ends chain = (chain.start, last_term chain.start chain.steps)

-- the chain replays from one term to another over the axioms and these facts
pub record LeadsFrom (axioms : List Equation) (facts : List Fact) (chain : Chain) (u v : Tree) : Type 0 where
  pub start_is : chain.start ≡ u
  pub end_is : end_of chain ≡ v
  pub replays : Replays axioms facts chain

-- each fact's chain replays from its left to its right side over the axioms and the earlier facts
abbrev pub FactsReplay : List Equation → List Fact → Type 0
FactsReplay axioms facts = (n : ℕ) (fact : Fact) → slice_get facts n ≡ Some fact → LeadsFrom axioms (take n facts) fact.chain fact.left fact.right
