-- The clause of a term and of its places, by the term's number.
use Rattle.std.proofs.Common.{◌≡◌, ℕ, zero, suc, ◌+◌, ◌*◌, ◌<◌, ◌/◌, ◌%◌, ◌==◌, Bool, true, false, List, [], ◌∷◌, length, get_or, slice_get, Option, Some, None, if◌then◌else◌, refl, sym, ap, ◌∙◌, arith}
use Rattle.std.specs.Option.{option_map}
use Rattle.std.proofs.lemmas.Bool.{eqb-true}
use Rattle.std.proofs.lemmas.Bool.Decides.{nat_tests}
use Rattle.std.proofs.lemmas.Option.{slice_get_within, slice_get-get_or}
use Rattle.uc_term.specs.declared.node.Sym.{Sym}
use Rattle.uc_term.specs.declared.node.Pos.{Pos}
use Rattle.uc_term.specs.Tree.{Tree, nodes}
use Rattle.uc_term.specs.Flat.{flat}
use Rattle.uc_term.specs.Table.{Table, Has}
use Rattle.uc_term.proofs.Terms.{length-flat}
use Rattle.uc_term.proofs.Grown.{has_nodes}
use Rattle.uc_clause.specs.declared.token.Place.{Place}
use Rattle.uc_clause.specs.declared.clause.Sourced.{Sourced}
use Rattle.uc_problem.specs.Holds.{terms_of, located, StandsAt}
use Rattle.uc_problem.specs.Sound.{AreSound}
use Rattle.uc_problem.specs.Assembly.{HasSymbolAt, HasPlaceAt, first_place}
use Rattle.uc_problem.proofs.Sound.{terms_sound}

abbrev pub in_file : Sourced → Place → List ℕ × Place
in_file s place = (s.file, place)

-- the left side of the clause of number k, and its right side
pub left_side : (ss : List Sourced) (k term : ℕ) (s : Sourced) → slice_get ss k ≡ Some s → term ≡ 2 * k → slice_get (terms_of ss) term ≡ Some s.clause.left
left_side [] k term s e q = absurd cc
left_side (x ∷ ss) zero zero s e q = let same : x ≡ s = cc in ap (λ (y : Sourced). Some y.clause.left) same
left_side (x ∷ ss) (suc k) (suc (suc term)) s e q = left_side ss k term s e (omega arith)
left_side v w y s e q = absurd (omega arith)

pub right_side : (ss : List Sourced) (k term : ℕ) (s : Sourced) → slice_get ss k ≡ Some s → term ≡ 2 * k + 1 → slice_get (terms_of ss) term ≡ Some s.clause.right
right_side [] k term s e q = absurd cc
right_side (x ∷ ss) zero (suc zero) s e q = let same : x ≡ s = cc in ap (λ (y : Sourced). Some y.clause.right) same
right_side (x ∷ ss) (suc k) (suc (suc term)) s e q = right_side ss k term s e (omega arith)
right_side v w y s e q = absurd (omega arith)

pub left_located : (ss : List Sourced) (k term node : ℕ) (s : Sourced) → slice_get ss k ≡ Some s → term ≡ 2 * k → located ss term node ≡ option_map (in_file s) (slice_get s.clause.places node)
left_located [] k term node s e q = absurd cc
left_located (x ∷ ss) zero zero node s e q = let same : x ≡ s = cc in ap (λ (y : Sourced). option_map (in_file y) (slice_get y.clause.places node)) same
left_located (x ∷ ss) (suc k) (suc (suc term)) node s e q = left_located ss k term node s e (omega arith)
left_located v w y node s e q = absurd (omega arith)

pub right_located : (ss : List Sourced) (k term node : ℕ) (s : Sourced) → slice_get ss k ≡ Some s → term ≡ 2 * k + 1 → located ss term node ≡ option_map (in_file s) (slice_get s.clause.places (nodes s.clause.left + node))
right_located [] k term node s e q = absurd cc
right_located (x ∷ ss) zero (suc zero) node s e q = let same : x ≡ s = cc in ap (λ (y : Sourced). option_map (in_file y) (slice_get y.clause.places (nodes y.clause.left + node))) same
right_located (x ∷ ss) (suc k) (suc (suc term)) node s e q = right_located ss k term node s e (omega arith)
right_located v w y node s e q = absurd (omega arith)

pub length_terms : (ss : List Sourced) → length (terms_of ss) ≡ 2 * length ss
length_terms [] = refl
length_terms (s ∷ ss) = omega (arith, length_terms ss)

pub located_within : (ss : List Sourced) (term node : ℕ) (spot : List ℕ × Place) → located ss term node ≡ Some spot → term / 2 < length ss
located_within [] term node spot e = absurd cc
located_within (s ∷ ss) zero node spot e = omega arith
located_within (s ∷ ss) (suc zero) node spot e = omega arith
located_within (s ∷ ss) (suc (suc term)) node spot e = omega (arith, located_within ss term node spot e)

pub get_in : {A : Type 0} (xs : List A) (i : ℕ) → i < length xs → (x : A) × (slice_get xs i ≡ Some x)
get_in [] i h = absurd (omega arith)
get_in (x ∷ xs) zero h = (x, refl)
get_in (x ∷ xs) (suc i) h = get_in xs i (omega arith)

-- what is mapped
option_of : {A B : Type 0} (f : A → B) (o : Option A) (y : B) → option_map f o ≡ Some y → (x : A) × (o ≡ Some x) × (f x ≡ y)
option_of f None y e = absurd cc
option_of f (Some x) y e = (x, refl, cc)

module _ (ss : List Sourced) (term node : ℕ) (d : Sourced) where
  abbrev pub clause_at : Sourced
  clause_at = get_or ss (term / 2) d

  abbrev pub place_number : ℕ
  place_number = first_place clause_at term + node

  located_at : term / 2 < length ss → located ss term node ≡ option_map (in_file clause_at) (slice_get clause_at.clause.places place_number)
  located_at h = go (term % 2 == 0) refl
    where
      at : slice_get ss (term / 2) ≡ Some clause_at
      at = slice_get-get_or ss (term / 2) d h

      go : (b : Bool) → (term % 2 == 0) ≡ b → located ss term node ≡ option_map (in_file clause_at) (slice_get clause_at.clause.places ((if b then 0 else nodes clause_at.clause.left) + node))
      go true e =
          let even : term % 2 ≡ 0 = eqb-true (term % 2) 0 e in
          left_located ss (term / 2) term node clause_at at (omega arith) ∙ ap (λ k. option_map (in_file clause_at) (slice_get clause_at.clause.places k)) (let q : node ≡ 0 + node = omega arith in q)
      go false e =
          let odd : term % 2 ≡ 1 = grind (arith, nat_tests) in
          right_located ss (term / 2) term node clause_at at (omega arith)

  -- the place is among the clause's places, and it is this one
  module _ (s : Sourced) (is : s ≡ clause_at) (spot : List ℕ × Place) (e : located ss term node ≡ Some spot) where
    located_here : located ss term node ≡ option_map (in_file s) (slice_get s.clause.places (first_place s term + node))
    located_here = rw is (located_at (located_within ss term node spot e))

    pub place_within : first_place s term + node < length s.clause.places
    place_within =
        let p = option_of (in_file s) (slice_get s.clause.places (first_place s term + node)) spot (sym located_here ∙ e) in
        slice_get_within s.clause.places (first_place s term + node) p.0 p.1

    pub place_is : (file : List ℕ) (other : Place) → file ≡ s.file → located ss term node ≡ Some (file, get_or s.clause.places (first_place s term + node) other)
    place_is file other f =
        located_here ∙ ap (option_map (in_file s)) (slice_get-get_or s.clause.places (first_place s term + node) other place_within) ∙ ap (λ (n : List ℕ). Some (n, get_or s.clause.places (first_place s term + node) other)) (sym f)

  pub even_side : term / 2 < length ss → term % 2 ≡ 0 → slice_get (terms_of ss) term ≡ Some clause_at.clause.left
  even_side h e = left_side ss (term / 2) term clause_at (slice_get-get_or ss (term / 2) d h) (omega arith)

  pub odd_side : term / 2 < length ss → (term % 2 ≡ 0 → ⊥) → slice_get (terms_of ss) term ≡ Some clause_at.clause.right
  odd_side h e = right_side ss (term / 2) term clause_at (slice_get-get_or ss (term / 2) d h) (omega (arith, e))

-- a node of a term has a place
module _ (table : Table) where
  pub place_of : (ss : List Sourced) (term node : ℕ) (t : Tree) → AreSound table ss → slice_get (terms_of ss) term ≡ Some t → node < nodes t → HasPlaceAt ss term node
  place_of [] term node t h e n = absurd cc
  place_of (s ∷ ss) zero node t h e n =
      let same : s.clause.left ≡ t = cc in
      let p = get_in s.clause.places node (omega (arith, n, h.0.places, ap nodes same)) in
      record { spot = (s.file, p.0); is = ap (option_map (in_file s)) p.1 }
  place_of (s ∷ ss) (suc zero) node t h e n =
      let same : s.clause.right ≡ t = cc in
      let p = get_in s.clause.places (nodes s.clause.left + node) (omega (arith, n, h.0.places, ap nodes same)) in
      record { spot = (s.file, p.0); is = ap (option_map (in_file s)) p.1 }
  place_of (s ∷ ss) (suc (suc term)) node t h e n =
      let r = place_of ss term node t h.1 e n in
      record { spot = r.spot; is = r.is }

  pub has_place : (ss : List Sourced) (term : ℕ) (pos : Pos) → AreSound table ss → HasSymbolAt ss term pos → HasPlaceAt ss term pos.0
  has_place ss term pos h s = place_of ss term pos.0 s.stands.tree h s.stands.tree_at (omega (arith, slice_get_within (flat s.stands.tree) pos.0 _ s.stands.node_at, length-flat s.stands.tree))

  pub has_symbol : (ss : List Sourced) (term : ℕ) (pos : Pos) (f : Sym) → AreSound table ss → StandsAt ss term pos f → Has table f
  has_symbol ss term pos f h s = has_nodes table s.tree (terms_sound table ss h term s.tree s.tree_at) pos.0 f s.count s.node_at
