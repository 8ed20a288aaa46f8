-- When a join is right: moves lead from two terms to ends, which are equal, or the two sides of one instance of a fact, or joined
-- under each order of their variables, or equal up to brackets and order (Martin and Nipkow, Ordered Rewriting and Confluence).
use Rattle.std.specs.Prelude.{ℕ, ◌≡◌, ◌≤◌, List, length, map, slice_get, Some}
use Rattle.uc_term.specs.declared.equation.Equation.{Equation}
use Rattle.uc_term.specs.declared.equation.Side.{Side}
use Rattle.uc_term.specs.Equations.{side_of}
use Rattle.uc_term.specs.Positions.{IsPlaceOf}
use Rattle.uc_term.specs.Tree.{Tree}
use Rattle.uc_order.specs.Members.{Each}
use Rattle.uc_order.specs.VarOrders.{Among, orders_of, represented}
use Rattle.uc_order.specs.Laws.{Meaning}
use Rattle.uc_fact.specs.declared.ac_facts.AcFacts.{AcFacts}
use Rattle.uc_fact.specs.declared.chain.Chain.{Chain}
use Rattle.uc_fact.specs.declared.fact.Overlap.{Overlap as AnyOverlap}
use Rattle.uc_fact.specs.Live.{numbered}
use Rattle.uc_pair.specs.declared.formation.Formation.TheVariants.{Pair}
use Rattle.uc_pair.specs.declared.formed.Formed.{Formed}
use Rattle.uc_pair.specs.Pairs.{IsPairOf}
use Rattle.uc_ground.specs.Joining.{AreVariables, IsInstance}
use Rattle.uc_ac.specs.AcEqual.{AcEqual}
use Rattle.uc_ac.specs.AcFacts.{AreAcFacts, symbols_of}
use Rattle.uc_certificate.specs.declared.certificate.AcTriple.{AcTriple}
use Rattle.uc_certificate.specs.declared.certificate.Case.{Case}
use Rattle.uc_certificate.specs.declared.certificate.End.{End}
use Rattle.uc_certificate.specs.declared.certificate.End.TheVariants.{Same, Instance, Orders, Ac}
use Rattle.uc_certificate.specs.declared.certificate.Join.{Join}
use Rattle.uc_certificate.specs.declared.certificate.What.{What}
use Rattle.uc_certificate.specs.declared.certificate.What.TheVariants.{Axiom, Overlap}
use Rattle.uc_certify.specs.declared.expected.Member.{Member}
use Rattle.uc_certify.specs.declared.expected.Member.TheVariants as member
use Rattle.uc_certify.specs.Moving.{moved, AreMoves}

-- the numbers of three facts that make a symbol associative and commutative
abbrev pub triple_of : AcFacts → AcTriple
triple_of facts = record { assoc = facts.assoc; comm = facts.comm; extended = facts.extended }

-- each triple names three facts that make one symbol associative and commutative, and the two are equal up to brackets and order
-- at these symbols
pub record AreRightTriples (facts : List Equation) (s t : Tree) (triples : List AcTriple) : Type 0 where
  pub list : List AcFacts
  pub triples_are : triples ≡ map triple_of list
  pub are_facts : Each (AreAcFacts (numbered facts)) list
  pub equal : AcEqual (symbols_of list) s t

module _ (m : Meaning) (facts : List Equation) where
  -- Under an order of variables moves lead from the two terms, each variable replaced by the first one of its class, to one term.
  pub record IsRightCase (s t : Tree) (case : Case) : Type 0 where
    pub left_moves : AreMoves m facts (m.under case.cases) (Among case.cases) (represented case.cases s) case.left
    pub right_moves : AreMoves m facts (m.under case.cases) (Among case.cases) (represented case.cases t) case.right
    pub meet : moved (represented case.cases s) case.left ≡ moved (represented case.cases t) case.right

  -- the two have at most 5 variables, and the cases are all orders of these, in order, each of them right
  pub record AreRightCases (s t : Tree) (cases : List Case) : Type 0 where
    pub vars : List ℕ
    pub vars_are : AreVariables s t vars
    pub few : length vars ≤ 5
    pub orders_are : map (λ (c : Case). c.cases) cases ≡ orders_of vars
    pub right : Each (IsRightCase s t) cases

  -- why two ends are joined
  abbrev pub IsRightEnd : Tree → Tree → End → Type 0
  IsRightEnd s t Same = s ≡ t
  IsRightEnd s t (Instance number) = IsInstance (numbered facts) s t number
  IsRightEnd s t (Orders cases) = AreRightCases s t cases
  IsRightEnd s t (Ac triples) = AreRightTriples facts s t triples

  -- moves lead from both terms to ends that are joined so
  pub record Joins (l r : Tree) (join : Join) : Type 0 where
    pub left_moves : AreMoves m facts m.greater (λ x. Unit {0}) l join.left
    pub right_moves : AreMoves m facts m.greater (λ x. Unit {0}) r join.right
    pub ends : IsRightEnd (moved l join.left) (moved r join.right) join.end

module _ (facts : List Equation) where
  -- these name the overlap, the position being the one that is named
  pub record NamesOverlap (overlap : AnyOverlap) (outer : ℕ) (outer_side : Side) (inner : ℕ) (inner_side : Side) (path : List ℕ) : Type 0 where
    pub outer_is : outer ≡ overlap.outer
    pub outer_side_is : outer_side ≡ overlap.outer_side
    pub inner_is : inner ≡ overlap.inner
    pub inner_side_is : inner_side ≡ overlap.inner_side
    pub fact : Equation
    pub fact_is : slice_get facts overlap.outer ≡ Some fact
    pub path_is : IsPlaceOf (side_of overlap.outer_side fact) path overlap.position.0

  -- this names the member
  abbrev pub Names : Member → What → Type 0
  Names (member.Axiom k) (Axiom number) = number ≡ k
  Names (member.Axiom k) (Overlap outer outer_side inner inner_side path) = ⊥
  Names (member.Overlap formed) (Axiom number) = ⊥
  Names (member.Overlap formed) (Overlap outer outer_side inner inner_side path) = NamesOverlap formed.overlap outer outer_side inner inner_side path

  -- the two terms that are to be joined: the sides of the axiom, or those of the overlap's pair
  pub data AreSides (axioms : List Equation) : Member → Tree → Tree → Type 0 where
    of_axiom : {k : ℕ} {e : Equation} → slice_get axioms k ≡ Some e → AreSides axioms (member.Axiom k) e.left e.right
    of_overlap : {formed : Formed} {a b : Equation} {left right : Tree} {chain : Chain} → slice_get facts formed.overlap.outer ≡ Some a → slice_get facts formed.overlap.inner ≡ Some b → IsPairOf a b formed.overlap (Pair left right chain) → AreSides axioms (member.Overlap formed) left right

-- the join names the member, and joins its two terms
pub record IsRightJoin (m : Meaning) (facts axioms : List Equation) (member : Member) (join : Join) : Type 0 where
  pub names : Names facts member join.what
  pub left : Tree
  pub right : Tree
  pub sides : AreSides facts axioms member left right
  pub joins : Joins m facts left right join
