-- How a join is made: as the final pass normalises two terms and tests their ends (Martin and Nipkow, Ordered Rewriting and
-- Confluence).
use Rattle.std.specs.Prelude.{ℕ, ◌≡◌, ◌<◌, List, [], ◌∷◌, map}
use Rattle.uc_term.specs.declared.equation.Equation.{Equation}
use Rattle.uc_term.specs.Equations.{side_of}
use Rattle.uc_term.specs.Positions.{IsPlaceOf}
use Rattle.uc_term.specs.Tree.{Tree, nodes}
use Rattle.uc_order.specs.Members.{Each}
use Rattle.uc_order.specs.VarOrders.{Classes, orders_of, represented}
use Rattle.uc_order.specs.Laws.{Meaning}
use Rattle.uc_fact.specs.declared.chain.By.TheVariants.{Fact}
use Rattle.uc_fact.specs.declared.chain.Step.{Step}
use Rattle.uc_fact.specs.declared.joinable.Joinable.TheVariants.{Joined}
use Rattle.uc_fact.specs.declared.joinable.Reason.{Reason}
use Rattle.uc_fact.specs.declared.joinable.Reason.TheVariants as reason
use Rattle.uc_fact.specs.declared.fact.Overlap.{Overlap}
use Rattle.uc_fact.specs.Live.{Live, numbered}
use Rattle.uc_rewrite.specs.declared.normal.Normal.{Normal}
use Rattle.uc_rewrite.specs.Normalising.{IsNormalOf}
use Rattle.uc_ground.specs.Joining.{AreVariables}
use Rattle.uc_ac.specs.Ends.{IsEndsAnswer}
use Rattle.uc_certificate.specs.declared.certificate.Case.{Case}
use Rattle.uc_certificate.specs.declared.certificate.End.{End}
use Rattle.uc_certificate.specs.declared.certificate.End.TheVariants.{Same, Instance, Orders, Ac}
use Rattle.uc_certificate.specs.declared.certificate.Join.{Join}
use Rattle.uc_certificate.specs.declared.certificate.Move.{Move}
use Rattle.uc_certificate.specs.declared.certificate.What.{What}
use Rattle.uc_certificate.specs.declared.certificate.What.TheVariants.{Axiom, Overlap as OfOverlap}
use Rattle.uc_certify.specs.declared.expected.Member.{Member}
use Rattle.uc_certify.specs.Gathering.{IsKnownMember}
use Rattle.uc_certify.specs.Expecting.{AreExpected, IsLargeMember}
use Rattle.uc_certify.specs.Joining.{Names, AreSides, triple_of}

-- the move is the step of a chain, with the path of its position in the term before it
pub record IsMoveOf (before : Tree) (step : Step) (move : Move) : Type 0 where
  pub by : step.by ≡ Fact move.fact
  pub way : move.left_to_right ≡ step.left_to_right
  pub path : IsPlaceOf before move.path step.position.0
  pub to : move.to ≡ step.to

-- the moves are the steps of a chain from a term on
abbrev pub AreMovesOf : Tree → List Step → List Move → Type 0
AreMovesOf before [] [] = Unit {0}
AreMovesOf before (step ∷ steps) (move ∷ moves) = IsMoveOf before step move × AreMovesOf step.to steps moves
AreMovesOf before steps moves = ⊥

-- the step is by a fact
abbrev pub IsByFact : Step → Type 0
IsByFact step = (number : ℕ) × (step.by ≡ Fact number)

-- the steps from a term on are by facts, each at a position of the term before it
abbrev pub AreByFacts : Tree → List Step → Type 0
AreByFacts before [] = Unit {0}
AreByFacts before (step ∷ steps) = IsByFact step × (step.position.0 < nodes before) × AreByFacts step.to steps

module _ (m : Meaning) (live : List Live) where
  -- Two terms are tried: both are normalised by the facts that live, with 4,096 steps each, and their ends are found to be joined.
  pub record AreFoundJoined (l r : Tree) : Type 0 where
    pub left : Normal
    pub right : Normal
    pub left_is : IsNormalOf m.greater m.least live 4096 l left
    pub right_is : IsNormalOf m.greater m.least live 4096 r right
    pub why : Reason
    pub answer_is : IsEndsAnswer m live left.term right.term (Joined why)

  -- Under an order of their variables two ends come to one term: their representatives are normalised with 4,096 steps each, and
  -- the moves are these steps.
  pub record IsMadeCase (s t : Tree) (cases : Classes) (case : Case) : Type 0 where
    pub cases_are : case.cases ≡ cases
    pub left : Normal
    pub right : Normal
    pub left_is : IsNormalOf (m.under cases) m.least live 4096 (represented cases s) left
    pub right_is : IsNormalOf (m.under cases) m.least live 4096 (represented cases t) right
    pub left_moves : AreMovesOf (represented cases s) left.chain.steps case.left
    pub right_moves : AreMovesOf (represented cases t) right.chain.steps case.right
    pub meet : left.term ≡ right.term

  -- one case for each of these orders, in order
  abbrev pub AreMadeCases : Tree → Tree → List Classes → List Case → Type 0
  AreMadeCases s t [] [] = Unit {0}
  AreMadeCases s t (cases ∷ orders) (case ∷ others) = IsMadeCase s t cases case × AreMadeCases s t orders others
  AreMadeCases s t orders others = ⊥

  -- a case for each order of the variables of two ends
  pub record AreAllCases (s t : Tree) (cases : List Case) : Type 0 where
    pub vars : List ℕ
    pub vars_are : AreVariables s t vars
    pub made : AreMadeCases s t (orders_of vars) cases

  -- the end of the join says why two ends are joined
  abbrev pub SaysWhy : Tree → Tree → Reason → End → Type 0
  SaysWhy s t reason.Same Same = Unit {0}
  SaysWhy s t (reason.Instance k) (Instance number) = number ≡ k
  SaysWhy s t reason.Orders (Orders cases) = AreAllCases s t cases
  SaysWhy s t (reason.Ac list) (Ac triples) = triples ≡ map triple_of list
  SaysWhy s t why end = ⊥

  -- the moves are the steps by which the two terms are normalised, and the end says why their ends are joined
  pub record IsMade (l r : Tree) (join : Join) : Type 0 where
    pub found : AreFoundJoined l r
    pub left_moves : AreMovesOf l found.left.chain.steps join.left
    pub right_moves : AreMovesOf r found.right.chain.steps join.right
    pub end : SaysWhy found.left.term found.right.term found.why join.end

module _ (m : Meaning) (facts axioms : List Equation) where
  -- a member whose pair can be formed, and whose two terms are found to be joined
  pub record IsFoundJoined (member : Member) : Type 0 where
    pub small : IsLargeMember member → ⊥
    pub joined : (l r : Tree) → AreSides facts axioms member l r → AreFoundJoined m (numbered facts) l r

  -- so is every axiom and every overlap
  abbrev pub AllAreFoundJoined : Type 0
  AllAreFoundJoined = (members : List Member) → AreExpected m.greater facts axioms members → Each IsFoundJoined members

  -- the join names the member, and is made for its two terms
  pub record IsMadeFor (member : Member) (join : Join) : Type 0 where
    pub names : Names facts member join.what
    pub left : Tree
    pub right : Tree
    pub sides : AreSides facts axioms member left right
    pub made : IsMade m (numbered facts) left right join

  -- one for each member, in order
  abbrev pub AreMadeFor : List Member → List Join → Type 0
  AreMadeFor [] [] = Unit {0}
  AreMadeFor (member ∷ members) (join ∷ joins) = IsMadeFor member join × AreMadeFor members joins
  AreMadeFor members joins = ⊥

  -- the joins are made for all that is expected
  pub record AreAllMade (joins : List Join) : Type 0 where
    pub members : List Member
    pub are_expected : AreExpected m.greater facts axioms members
    pub known : Each (IsKnownMember facts axioms) members
    pub made : AreMadeFor members joins

-- this names the overlap, whose outer fact is this one
abbrev pub NamesIt : Overlap → Equation → What → Type 0
NamesIt overlap fact (Axiom number) = ⊥
NamesIt overlap fact (OfOverlap outer outer_side inner inner_side path) = (outer ≡ overlap.outer) × (outer_side ≡ overlap.outer_side) × (inner ≡ overlap.inner) × (inner_side ≡ overlap.inner_side) × IsPlaceOf (side_of overlap.outer_side fact) path overlap.position.0
