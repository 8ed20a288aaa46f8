-- The terms of a book are over one signature.
use Rattle.std.specs.Prelude.{ℕ, ◌≡◌, List, map, slice_get, Some}
use Rattle.uc_term.specs.declared.equation.Equation.{Equation}
use Rattle.uc_term.specs.Over.{IsTerm}
use Rattle.uc_order.specs.Laws.{Meaning, HasSym, IsGroundOf}
use Rattle.uc_fact.specs.declared.chain.Step.{Step}
use Rattle.uc_fact.specs.declared.chain.Chain.{Chain}
use Rattle.uc_fact.specs.declared.fact.Fact.{Fact}
use Rattle.uc_fact.specs.Chains.{end_of}
use Rattle.uc_fact.specs.Live.{equation_of}
use Rattle.uc_fact.specs.Ground.{AreOfSignature}
use Rattle.uc_shelf.specs.Entries.{born}
use Rattle.uc_machine.specs.Lists.{Each}
use Rattle.uc_machine.specs.State.{Opening, State, Target}

-- By this order's signature.
module _ (m : Meaning) where
  -- the axioms and the goals are over it
  pub record OpensOver (o : Opening) : Type 0 where
    pub axioms : AreOfSignature (HasSym m) m.arity o.axioms
    pub goals : AreOfSignature (HasSym m) m.arity o.goals

  -- each term of the chain is over it
  pub record IsChainOver (c : Chain) : Type 0 where
    pub start : IsTerm (HasSym m) m.arity c.start
    pub steps : Each (λ (x : Step). IsTerm (HasSym m) m.arity x.to) c.steps

  pub record IsTargetOver (g : Target) : Type 0 where
    pub left : IsChainOver g.left
    pub right : IsChainOver g.right

  -- the facts, with their chains, and the chains of the goals are over it
  pub record IsOver (s : State) : Type 0 where
    pub facts : AreOfSignature (HasSym m) m.arity (map equation_of (born s.entries))
    pub chains : Each (λ (f : Fact). IsChainOver f.chain) (born s.entries)
    pub goals : Each IsTargetOver s.goals

  -- both sides of each of the equations are ground, over it
  abbrev pub AreGroundEquations : List Equation → Type 0
  AreGroundEquations es = (number : ℕ) (e : Equation) → slice_get es number ≡ Some e → IsGroundOf m e.left × IsGroundOf m e.right

  -- the two present ends of each goal are
  abbrev pub EndsAreGround : State → Type 0
  EndsAreGround s = Each (λ (g : Target). IsGroundOf m (end_of g.left) × IsGroundOf m (end_of g.right)) s.goals
