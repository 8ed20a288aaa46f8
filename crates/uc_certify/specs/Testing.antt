-- What the parts of the tests of joins ask.
use Rattle.std.specs.Prelude.{ℕ, ◌≡◌, List, [], ◌∷◌, map, slice_get, Some}
use Rattle.uc_term.specs.declared.node.Sym.{Sym}
use Rattle.uc_term.specs.declared.equation.Equation.{Equation}
use Rattle.uc_term.specs.Equations.{side_of}
use Rattle.uc_term.specs.Positions.{IsPlaceOf}
use Rattle.uc_term.specs.Tree.{Tree, apply}
use Rattle.uc_order.specs.VarOrders.{Classes}
use Rattle.uc_order.specs.Laws.{Meaning}
use Rattle.uc_fact.specs.declared.fact.Overlap.{Overlap as AnyOverlap}
use Rattle.uc_fact.specs.Live.{numbered}
use Rattle.uc_ac.specs.AcFacts.{AreAcFacts}
use Rattle.uc_certificate.specs.declared.certificate.AcTriple.{AcTriple}
use Rattle.uc_certificate.specs.declared.certificate.Case.{Case}
use Rattle.uc_certificate.specs.declared.certificate.Join.{Join}
use Rattle.uc_certify.specs.declared.expected.Member.{Member}
use Rattle.uc_certify.specs.Joining.{AreSides, Joins}

-- one substitution makes each side its term
pub record AreBoth (left s right t : Tree) : Type 0 where
  pub σ : ℕ → Tree
  pub left_is : s ≡ apply σ left
  pub right_is : t ≡ apply σ right

-- the cases are these orders of variables
abbrev pub HaveOrders : List Case → List Classes → Type 0
HaveOrders cases orders = map (λ (c : Case). c.cases) cases ≡ orders

-- the three facts of a triple make the symbol associative and commutative
abbrev pub MakesAc : List Equation → AcTriple → Sym → Type 0
MakesAc facts triple f = AreAcFacts (numbered facts) (record { symbol = f; assoc = triple.assoc; comm = triple.comm; extended = triple.extended })

-- those of each triple make the symbol at its place so
abbrev pub MakeAc : List Equation → List AcTriple → List Sym → Type 0
MakeAc facts [] [] = Unit {0}
MakeAc facts (triple ∷ triples) (f ∷ fs) = MakesAc facts triple f × MakeAc facts triples fs
MakeAc facts triples fs = ⊥

-- the path leads to the overlap's position in the side of the outer fact
pub record HasPath (facts : List Equation) (overlap : AnyOverlap) (path : List ℕ) : Type 0 where
  pub fact : Equation
  pub fact_is : slice_get facts overlap.outer ≡ Some fact
  pub path_is : IsPlaceOf (side_of overlap.outer_side fact) path overlap.position.0

-- the join joins the two terms of the member
pub record JoinsMember (m : Meaning) (facts axioms : List Equation) (member : Member) (join : Join) : Type 0 where
  pub left : Tree
  pub right : Tree
  pub sides : AreSides facts axioms member left right
  pub joins : Joins m facts left right join
