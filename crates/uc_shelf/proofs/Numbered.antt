-- What a front keeps beside its places tells where a fact of a number is born, and whether it is dead.
use Rattle.std.proofs.Common.{◌≡◌, ℕ, zero, suc, ◌==◌, ◌+◌, ◌<◌, Bool, true, false, List, [], ◌∷◌, ◌++◌, length, slice_get, Option, Some, None, refl, sym, ap, ◌∙◌, arith, append-nil, subst}
use Rattle.std.specs.Prelude.{◌||◌, IsSome}
use Rattle.std.proofs.lemmas.List.{map-append, length-map}
use Rattle.boxcar.specs.Table.{Where}
use Rattle.uc_fact.specs.declared.fact.Fact.{Fact}
use Rattle.uc_fact.specs.Live.{fact_at, numbered_from, equation_of}
use Rattle.uc_shelf.specs.declared.entry.Entry.{Entry}
use Rattle.uc_shelf.specs.declared.entry.Entry.TheVariants.{Born, Dies}
use Rattle.uc_shelf.specs.Entries.{born, is_dead, equations}
use Rattle.uc_shelf.specs.Numbers.{births_from, is_among, AreDead, dying, Notes}
use Rattle.uc_shelf.specs.Sights.{entries_at}

from_zero : (n : ℕ) → 0 + n ≡ n
from_zero n = omega arith

-- one entry more

births_more : (k : ℕ) (es : List Entry) (e : Entry) → births_from k (es ++ e ∷ []) ≡ births_from k es ++ births_from (k + length es) (e ∷ [])
births_more k [] e = ap (λ z. births_from z (e ∷ [])) (let r : k ≡ k + 0 = omega arith in r)
births_more k (Born f ∷ es) e = ap (λ z. k ∷ z) (births_more (k + 1) es e ∙ ap (λ z. births_from (k + 1) es ++ births_from z (e ∷ [])) (let r : k + 1 + length es ≡ k + suc (length es) = omega arith in r))
births_more k (Dies f l ∷ es) e = births_more (k + 1) es e ∙ ap (λ z. births_from (k + 1) es ++ births_from z (e ∷ [])) (let r : k + 1 + length es ≡ k + suc (length es) = omega arith in r)

or_nothing : (a : Bool) → a ≡ (a || false)
or_nothing true = refl
or_nothing false = refl

or_swapped : (a b c : Bool) → (a || (b || c)) ≡ (b || (a || c))
or_swapped true true c = refl
or_swapped true false c = refl
or_swapped false b c = refl

dead_more : (es : List Entry) (e : Entry) (n : ℕ) → is_dead (es ++ e ∷ []) n ≡ (is_dead (e ∷ []) n || is_dead es n)
dead_more [] e n = or_nothing (is_dead (e ∷ []) n)
dead_more (Born f ∷ es) e n = dead_more es e n
dead_more (Dies f l ∷ es) e n = ap (λ b. (f == n) || b) (dead_more es e n) ∙ or_swapped (f == n) (is_dead (e ∷ []) n) (is_dead es n)

noted_more : (es : List Entry) (e : Entry) (bs ds bs' ds' : List ℕ) → bs ≡ births_from 0 es → AreDead es ds
    → Notes (length es) (dying e) bs ds bs' ds' → (bs' ≡ births_from 0 (es ++ e ∷ [])) × AreDead (es ++ e ∷ []) ds'
noted_more es (Born f) bs ds bs' ds' b d h = (
  h.0 ∙ ap (λ z. z ++ length es ∷ []) b ∙ ap (λ z. births_from 0 es ++ z ∷ []) (sym (from_zero (length es))) ∙ sym (births_more 0 es (Born f)),
  λ n. dead_more es (Born f) n ∙ d n ∙ ap (λ z. is_among z n) (sym h.1),
)
noted_more es (Dies f l) bs ds bs' ds' b d h = (
  h.0 ∙ b ∙ sym (append-nil (births_from 0 es)) ∙ sym (births_more 0 es (Dies f l)),
  λ n. dead_more es (Dies f l) n ∙ ap (λ z. z || is_dead es n) (sym (or_nothing (f == n))) ∙ ap (λ z. (f == n) || z) (d n) ∙ sym (h.1 n),
)

pub noted : (ps : List (Where Entry)) (p : Where Entry) (dies : Option ℕ) (k : ℕ) (bs ds bs' ds' : List ℕ)
    → dies ≡ dying p.value → k ≡ length ps → bs ≡ births_from 0 (entries_at ps) → AreDead (entries_at ps) ds
    → Notes k dies bs ds bs' ds' → (bs' ≡ births_from 0 (entries_at (ps ++ p ∷ []))) × AreDead (entries_at (ps ++ p ∷ [])) ds'
noted ps p dies k bs ds bs' ds' named long b d h =
    let f : Where Entry → Entry = λ q. q.value in
    let m : k ≡ length (entries_at ps) = long ∙ sym (length-map ps f) in
    let at : entries_at (ps ++ p ∷ []) ≡ entries_at ps ++ p.value ∷ [] = map-append f ps (p ∷ []) in
    let more = noted_more (entries_at ps) p.value bs ds bs' ds' b d (subst (λ z. Notes z (dying p.value) bs ds bs' ds') m (subst (λ z. Notes k z bs ds bs' ds') named h)) in
    subst (λ z. (bs' ≡ births_from 0 z) × AreDead z ds') (sym at) more

-- the birth of a fact

record BornAt (k n i : ℕ) (es : List Entry) (j : ℕ) : Type 0 where
  place : ℕ
  fact : Fact
  here : j ≡ k + place
  is : slice_get es place ≡ Some (Born fact)
  nth : slice_get (born es) i ≡ Some fact
  found : fact_at (numbered_from n (equations es)) (n + i) ≡ Some (equation_of fact)

same_number : (n : ℕ) → (n == n + 0) ≡ true
same_number n = grind arith

other_number : (n i : ℕ) → (n == n + suc i) ≡ false
other_number n i = grind arith

born_at : (es : List Entry) (k n i j : ℕ) → slice_get (births_from k es) i ≡ Some j → BornAt k n i es j
born_at [] k n i j h = absurd (cc)
born_at (Born f ∷ es) k n zero j h = record {
  place = 0;
  fact = f;
  here = (let same : k ≡ j = cc in omega (arith, same));
  is = refl;
  nth = refl;
  found = rw (same_number n) refl;
}
born_at (Born f ∷ es) k n (suc i) j h =
    let b = born_at es (k + 1) (n + 1) i j h in
    let r : n + suc i ≡ n + 1 + i = omega arith in
    record {
      place = suc b.place;
      fact = b.fact;
      here = omega (arith, b.here);
      is = b.is;
      nth = b.nth;
      found = rw (other_number n i) (rw r b.found);
    }
born_at (Dies f l ∷ es) k n i j h =
    let b = born_at es (k + 1) n i j h in
    record {
      place = suc b.place;
      fact = b.fact;
      here = omega (arith, b.here);
      is = b.is;
      nth = b.nth;
      found = b.found;
    }

not_born : (es : List Entry) (k n i : ℕ) → slice_get (births_from k es) i ≡ None → fact_at (numbered_from n (equations es)) (n + i) ≡ None
not_born [] k n i h = refl
not_born (Born f ∷ es) k n zero h = absurd (cc)
not_born (Born f ∷ es) k n (suc i) h =
    let r : n + suc i ≡ n + 1 + i = omega arith in
    rw (other_number n i) (rw r (not_born es (k + 1) (n + 1) i h))
not_born (Dies f l ∷ es) k n i h = not_born es (k + 1) n i h

get_inside : (es : List Entry) (k : ℕ) (e : Entry) → slice_get es k ≡ Some e → k < length es
get_inside [] k e h = absurd (cc)
get_inside (x ∷ es) zero e h = omega arith
get_inside (x ∷ es) (suc k) e h = let l = get_inside es k e h in omega (arith, l)

-- a birth's entry is one of the front's
pub birth_inside : (es : List Entry) (i j : ℕ) → Some j ≡ slice_get (births_from 0 es) i → j < length es
birth_inside es i j h =
    let b = born_at es 0 0 i j (sym h) in
    let l = get_inside es b.place (Born b.fact) b.is in
    omega (arith, l, b.here)

-- the fact of a number

births_of : (es : List Entry) (k i : ℕ) → i < length (born es) → (j : ℕ) × (slice_get (births_from k es) i ≡ Some j)
births_of [] k i less = absurd (omega (arith, less))
births_of (Born f ∷ es) k zero less = (k, refl)
births_of (Born f ∷ es) k (suc i) less = births_of es (k + 1) i (omega (arith, less))
births_of (Dies f l ∷ es) k i less = births_of es (k + 1) i less

-- a fact that is born has a birth
pub birth_of : (es : List Entry) (i : ℕ) (o : Option ℕ) → o ≡ slice_get (births_from 0 es) i → i < length (born es) → IsSome o
birth_of es i o e less = let b = births_of es 0 i less in let is : o ≡ Some b.0 = e ∙ b.1 in rw is refl

pub entry_at_birth : (es : List Entry) (i j : ℕ) (e : Entry) → Some j ≡ slice_get (births_from 0 es) i → Some e ≡ slice_get es j → (f : Fact) × (e ≡ Born f) × (slice_get (born es) i ≡ Some f)
entry_at_birth es i j e birth at =
    let b = born_at es 0 0 i j (sym birth) in
    let same : Some e ≡ Some (Born b.fact) = at ∙ ap (slice_get es) (b.here ∙ from_zero b.place) ∙ b.is in
    (b.fact, (let r : e ≡ Born b.fact = cc in r), b.nth)

pub fact_at_birth : (es : List Entry) (i j : ℕ) (e : Entry) (f : Fact) → Some j ≡ slice_get (births_from 0 es) i → Some e ≡ slice_get es j → e ≡ Born f → slice_get (born es) i ≡ Some f
fact_at_birth es i j e f birth at is =
    let b = entry_at_birth es i j e birth at in
    let both : Born b.0 ≡ Born f = sym b.1 ∙ is in
    let same : b.0 ≡ f = cc in
    b.2 ∙ ap (λ z. Some z) same

pub no_death_at_birth : (es : List Entry) (i j : ℕ) (e : Entry) (f k : ℕ) → Some j ≡ slice_get (births_from 0 es) i → Some e ≡ slice_get es j → e ≡ Dies f k → ⊥
no_death_at_birth es i j e f k birth at is =
    let b = entry_at_birth es i j e birth at in
    let both : Born b.0 ≡ Dies f k = sym b.1 ∙ is in
    absurd cc
