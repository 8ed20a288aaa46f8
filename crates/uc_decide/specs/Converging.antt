-- When facts converge: what is tested of them and of the axioms (Bachmair, Dershowitz and Plaisted, Completion without
-- failure).
use Rattle.std.specs.Prelude.{ℕ, ◌≡◌, List, slice_get, Some}
use Rattle.uc_term.specs.declared.equation.Equation.{Equation}
use Rattle.uc_term.specs.Tree.{Tree}
use Rattle.uc_term.specs.Conversion.{Conv}
use Rattle.uc_order.specs.Members.{Each}
use Rattle.uc_order.specs.Laws.{Meaning, HasSym}
use Rattle.uc_fact.specs.declared.fact.Overlap.{Overlap}
use Rattle.uc_fact.specs.Live.{Live, AreRising, fact_at, equations_of}
use Rattle.uc_fact.specs.Ground.{IsJoinable}
use Rattle.uc_pair.specs.declared.formed.Formed.{Formed}
use Rattle.uc_pair.specs.Overlapping.{IsOverlapOf, left_of, right_of}
use Rattle.uc_pair.specs.Listing.{AreOverlaps}

module _ (m : Meaning) (live : List Live) where
  -- each ground instance of the two is joined by ground steps of the facts that live
  abbrev pub AreJoinable : Tree → Tree → Type 0
  AreJoinable = IsJoinable m.greater (HasSym m) m.arity (equations_of live)

  -- the two sides of the overlap's pair are joinable; how its variables are named doesn't matter
  pub record IsJoinableOverlap (a b : Equation) (overlap : Overlap) : Type 0 where
    pub overlaps : IsOverlapOf a b overlap
    pub joinable : AreJoinable (left_of overlaps) (right_of overlaps)

  -- so is each overlap of the outer fact a of number i with the inner fact b of number j that isn't left out
  pub record HasJoinableOverlaps (i : ℕ) (a : Equation) (j : ℕ) (b : Equation) : Type 0 where
    pub list : List Formed
    pub are_overlaps : AreOverlaps m.greater i a j b list
    pub are_joinable : Each (λ formed. IsJoinableOverlap a b formed.overlap) list

  -- so is each of two facts, also of a fact with itself
  abbrev pub AreJoinableOverlaps : Type 0
  AreJoinableOverlaps = (i j : ℕ) (a b : Equation) → fact_at live i ≡ Some a → fact_at live j ≡ Some b → HasJoinableOverlaps i a j b

  -- the two sides of each of the axioms are joinable
  abbrev pub AreJoinableAxioms : List Equation → Type 0
  AreJoinableAxioms axioms = (number : ℕ) (e : Equation) → slice_get axioms number ≡ Some e → AreJoinable e.left e.right

-- each of the equations follows from the axioms: the equation itself, of which no instance is taken
abbrev pub FollowFrom : List Equation → List Equation → Type 0
FollowFrom axioms es = (number : ℕ) (e : Equation) → slice_get es number ≡ Some e → Conv axioms e.left e.right

-- the facts, by rising numbers, converge: each overlap of two of them that isn't left out is joinable, each axiom is joinable,
-- and each of the facts follows from the axioms
pub record Converge (m : Meaning) (live : List Live) (axioms : List Equation) : Type 0 where
  pub rising : AreRising live
  pub overlaps : AreJoinableOverlaps m live
  pub axioms_join : AreJoinableAxioms m live axioms
  pub facts_follow : FollowFrom axioms (equations_of live)
