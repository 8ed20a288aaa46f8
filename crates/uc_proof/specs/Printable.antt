-- What a proof is made of that can be printed.
use Rattle.std.specs.Prelude.{ℕ, ◌≡◌, List, slice_get, Some}
use Rattle.std.specs.List.{AllByRecursion}
use Rattle.uc_term.specs.Table.{Table}
use Rattle.uc_term.specs.declared.equation.Equation.{Equation}
use Rattle.uc_clause.specs.declared.clause.Sourced.{Sourced}
use Rattle.uc_clause.specs.Names.{IsSpellable}
use Rattle.uc_clause.specs.Printable.{IsPrintable, IsPrintableClause}
use Rattle.uc_fact.specs.declared.chain.Step.{Step}
use Rattle.uc_fact.specs.declared.chain.Chain.{Chain}
use Rattle.uc_fact.specs.declared.fact.Fact.{Fact}
use Rattle.uc_problem.specs.declared.problem.Problem.{Problem}
use Rattle.uc_problem.specs.declared.problem.Encoded.{Encoded}
use Rattle.uc_proof.specs.declared.aim.Aim.{Aim}
use Rattle.uc_proof.specs.declared.aim.Aim.TheVariants as aim

-- every symbol's name can be spelled, and none has more than 255 arguments
module _ (table : Table) where
  abbrev pub IsPrintableChain : Chain → Type 0
  IsPrintableChain chain = IsPrintable table chain.start × AllByRecursion (λ (s : Step). IsPrintable table s.to) chain.steps

  abbrev pub IsPrintableEquation : Equation → Type 0
  IsPrintableEquation e = IsPrintable table e.left × IsPrintable table e.right

  -- the clauses with their files and names, the encoded axioms and goals, and the facts with their chains
  pub record ArePrintableParts (problem : Problem) (encoded : Encoded) (facts : List Fact) : Type 0 where
    pub clauses : (c : ℕ) (s : Sourced) → slice_get problem.clauses c ≡ Some s → IsSpellable s.file × IsPrintableClause table s.clause
    pub axioms : (k : ℕ) (e : Equation) → slice_get encoded.axioms k ≡ Some e → IsPrintableEquation e
    pub goals : (k : ℕ) (e : Equation) → slice_get encoded.goals k ≡ Some e → IsPrintableEquation e
    pub fact_sides : (n : ℕ) (fact : Fact) → slice_get facts n ≡ Some fact → IsPrintable table fact.left × IsPrintable table fact.right
    pub fact_chains : (n : ℕ) (fact : Fact) → slice_get facts n ≡ Some fact → IsPrintableChain fact.chain

  -- these, and the goal's two chains
  pub record ArePrintable (problem : Problem) (encoded : Encoded) (facts : List Fact) (left right : Chain) : Type 0 where
    pub parts : ArePrintableParts problem encoded facts
    pub left_chain : IsPrintableChain left
    pub right_chain : IsPrintableChain right

  -- so is the chain of a goal
  abbrev pub IsPrintableAim : Aim → Type 0
  IsPrintableAim (aim.Goal chain goal) = IsPrintableChain chain
  IsPrintableAim (aim.Facts live) = Unit {0}
