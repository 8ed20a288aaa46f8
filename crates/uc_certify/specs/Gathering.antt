-- How what is expected is gathered.
use Rattle.std.specs.Prelude.{ℕ, ◌≡◌, ◌<◌, ◌++◌, List, slice_get, length, Option, Some, None}
use Rattle.uc_term.specs.declared.equation.Equation.{Equation}
use Rattle.uc_term.specs.Tree.{Tree}
use Rattle.uc_fact.specs.Live.{numbered}
use Rattle.uc_rewrite.specs.Scanning.{live_fact}
use Rattle.uc_order.specs.Laws.{Meaning}
use Rattle.uc_fact.specs.declared.fact.Overlap.{Overlap as AnyOverlap}
use Rattle.uc_pair.specs.declared.formed.Formed.{Formed}
use Rattle.uc_pair.specs.Overlapping.{IsFormedOf}
use Rattle.uc_certify.specs.declared.expected.Member.{Member}
use Rattle.uc_certify.specs.declared.expected.Member.TheVariants.{Axiom, Overlap}
use Rattle.uc_certificate.specs.declared.certificate.Join.{Join}
use Rattle.uc_certify.specs.declared.certified.Certified.{Certified}
use Rattle.uc_certify.specs.Expecting.{members_of, OverlapsWith, AreExpected, IsLargeMember}
use Rattle.uc_certify.specs.Certifying.{AreTested}

-- it is an overlap of two of the facts
pub record IsOfFacts (facts : List Equation) (formed : Formed) : Type 0 where
  pub outer : Equation
  pub inner : Equation
  pub outer_is : slice_get facts formed.overlap.outer ≡ Some outer
  pub inner_is : slice_get facts formed.overlap.inner ≡ Some inner
  pub formed_is : IsFormedOf outer inner formed

-- there is the axiom, or it is such an overlap
abbrev pub IsKnownMember : List Equation → List Equation → Member → Type 0
IsKnownMember facts axioms (Axiom k) = k < length axioms
IsKnownMember facts axioms (Overlap formed) = IsOfFacts facts formed

-- behind the old list stand the overlaps of the outer fact of a number with each of the facts
pub record AddsOverlaps (Greater : Tree → Tree → Type 0) (k : ℕ) (facts : List Equation) (old new : List Member) : Type 0 where
  pub outer : Equation
  pub outer_is : slice_get facts k ≡ Some outer
  pub list : List Formed
  pub are_overlaps : OverlapsWith Greater (live_fact k outer) (numbered facts) list
  pub new_is : new ≡ old ++ members_of list

-- the member's overlap, where it is one whose pair is too large
abbrev pub IsIfLarge : Member → Option AnyOverlap → Type 0
IsIfLarge member None = IsLargeMember member → ⊥
IsIfLarge member (Some overlap) = (formed : Formed) × (member ≡ Overlap formed) × IsLargeMember member × (overlap ≡ formed.overlap)

-- what the joins come to along what is expected
pub record AreExpectedTested (m : Meaning) (facts axioms : List Equation) (joins : List Join) (answer : Certified) : Type 0 where
  pub members : List Member
  pub are_expected : AreExpected m.greater facts axioms members
  pub tested : AreTested m facts axioms members joins 0 answer
