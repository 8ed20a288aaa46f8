-- What a certificate is to join: every axiom, and every overlap of two facts.
use Rattle.std.specs.Prelude.{ℕ, ◌≡◌, ◌+◌, ◌++◌, List, [], ◌∷◌, map}
use Rattle.uc_term.specs.declared.equation.Equation.{Equation}
use Rattle.uc_term.specs.Tree.{Tree}
use Rattle.uc_fact.specs.Live.{Live, numbered}
use Rattle.uc_pair.specs.declared.formed.Formed.{Formed}
use Rattle.uc_pair.specs.declared.formed.Size.TheVariants.{Large}
use Rattle.uc_pair.specs.Listing.{AreOverlaps}
use Rattle.uc_certify.specs.declared.expected.Member.{Member}
use Rattle.uc_certify.specs.declared.expected.Member.TheVariants.{Axiom, Overlap}

-- the axioms, in order
abbrev pub axioms_from : ℕ → List Equation → List Member
axioms_from k [] = []
axioms_from k (e ∷ es) = Axiom k ∷ axioms_from (k + 1) es

-- the overlaps, in order
abbrev pub members_of : List Formed → List Member
members_of list = map (λ f. Overlap f) list

module _ (Greater : Tree → Tree → Type 0) where
  -- the overlaps of one outer fact with each of these, by inner fact
  pub data OverlapsWith (outer : Live) : List Live → List Formed → Type 0 where
    no_inner : OverlapsWith outer [] []
    next_inner : {inner : Live} {inners : List Live} {list others : List Formed} → AreOverlaps Greater outer.number outer.equation inner.number inner.equation list → OverlapsWith outer inners others → OverlapsWith outer (inner ∷ inners) (list ++ others)

  -- every overlap of an outer fact of these, by outer fact and then inner fact
  pub data AllOverlaps (inners : List Live) : List Live → List Formed → Type 0 where
    no_outer : AllOverlaps inners [] []
    next_outer : {outer : Live} {outers : List Live} {list others : List Formed} → OverlapsWith outer inners list → AllOverlaps inners outers others → AllOverlaps inners (outer ∷ outers) (list ++ others)

  -- the members are every axiom in order, and then every overlap of two facts, also of a fact with itself
  pub record AreExpected (facts axioms : List Equation) (members : List Member) : Type 0 where
    pub overlaps : List Formed
    pub are_overlaps : AllOverlaps (numbered facts) (numbered facts) overlaps
    pub members_are : members ≡ axioms_from 0 axioms ++ members_of overlaps

-- the pair can't be formed
abbrev pub IsLarge : Formed → Type 0
IsLarge formed = formed.size ≡ Large

abbrev pub IsLargeMember : Member → Type 0
IsLargeMember (Axiom k) = ⊥
IsLargeMember (Overlap formed) = IsLarge formed
