-- What the results of meetings owe the machine: the kills are born in the front, and the overlaps differ, the fact that meets
-- being the later one of each.
use Rattle.std.proofs.Common.{◌≡◌, ℕ, suc, ◌+◌, ◌<◌, ◌≤◌, List, [], ◌∷◌, ◌++◌, length, Bool, cond, refl, ap, sym, ◌∙◌, arith, inl, inr}
use Rattle.std.specs.Prelude.{◌⊎◌, nat_lt}
use Rattle.std.proofs.lemmas.Bool.{cases_Bool}
use Rattle.std.proofs.lemmas.List.{append-nil}
use Rattle.uc_term.specs.declared.equation.Equation.{Equation}
use Rattle.uc_term.specs.declared.equation.Side.{Side}
use Rattle.uc_term.specs.declared.equation.Side.TheVariants.{Left, Right}
use Rattle.uc_fact.specs.declared.fact.Overlap.{Overlap}
use Rattle.uc_pair.specs.declared.formed.Formed.{Formed}
use Rattle.uc_shelf.specs.declared.entry.Entry.{Entry}
use Rattle.uc_shelf.specs.declared.entry.Entry.TheVariants.{Born, Dies}
use Rattle.uc_shelf.specs.Entries.{born, is_dead}
use Rattle.uc_machine.specs.Lists.{Each}
use Rattle.uc_machine.specs.Promises.{later_fact}
use Rattle.std.specs.Prelude.{not, filter}
use Rattle.std.proofs.lemmas.Bool.{ltb-true, ltb-false}
use Rattle.uc_order.specs.Laws.{Meaning}
use Rattle.uc_fact.specs.Live.{Live, Rule, RiseFrom, numbered_from}
use Rattle.uc_pair.specs.Overlapping.{read_from, overlap_at}
use Rattle.uc_pair.specs.Listing.{Lists, no_more_places, at_variable, no_unifier, repeats, goes_nowhere, leads_up, is_listed, no_rules, next_rules, AreOverlaps}
use Rattle.uc_shelf.specs.Entries.{equations, live}
use Rattle.uc_shelf.specs.Rising.{live_rise}
use Rattle.uc_machine.specs.Results.{AreKills, no_facts, kills_it, spares_it, is_no_earlier, AreMeetings, with_itself, with_earlier, not_with_later}
use Rattle.uc_machine.proofs.Lists.{Each-map}
use Rattle.uc_machine.proofs.Calls.{AllDiffer, MeetsRightly}

pub Each-append : {A : Type 0} (P : A → Type 0) (xs ys : List A) → Each P xs → Each P ys → Each P (xs ++ ys)
Each-append P [] ys a b = b
Each-append P (x ∷ xs) ys a b = (a.0, Each-append P xs ys a.1 b)

-- the numbers of the facts that live

numbered_below : (n : ℕ) (es : List Equation) → Each (λ (f : Live). f.number < n + length es) (numbered_from n es)
numbered_below n [] = tt
numbered_below n (e ∷ es) = ((let h : n < n + suc (length es) = omega arith in h), Each-map (λ (f : Live) (h : f.number < n + 1 + length es). (let r : f.number < n + suc (length es) = omega arith in r)) (numbered_from (n + 1) es) (numbered_below (n + 1) es))

pub Each-filter : (P : Live → Type 0) (p : Live → Bool) (fs : List Live) → Each P fs → Each P (filter p fs)
Each-filter P p [] h = tt
Each-filter P p (f ∷ fs) h = elim (cases_Bool (p f)) as (λ _. Each P (filter p (f ∷ fs))) [
  | inl b ↦ rw b (h.0, Each-filter P p fs h.1)
  | inr b ↦ rw b (Each-filter P p fs h.1)
]

length-equations : (es : List Entry) → length (equations es) ≡ length (born es)
length-equations [] = refl
length-equations (Born f ∷ es) = ap suc (length-equations es)
length-equations (Dies f k ∷ es) = length-equations es

live_below : (es : List Entry) → Each (λ (f : Live). f.number < length (born es)) (live es)
live_below es = Each-map (λ (f : Live) (h : f.number < 0 + length (equations es)). (let e = length-equations es in let r : f.number < length (born es) = omega arith in r)) (live es) (Each-filter (λ (f : Live). f.number < 0 + length (equations es)) (λ (f : Live). not (is_dead es f.number)) (numbered_from 0 (equations es)) (numbered_below 0 (equations es)))

kills_in : (m : Meaning) (es : List Entry) (i : ℕ) (e : Equation) (n : ℕ) (js : List Live) (ks : List ℕ) → Each (λ (f : Live). f.number < n) js → AreKills m es i e js ks → Each (λ k. k < n) ks
kills_in m es i e n [] _ h no_facts = tt
kills_in m es i e n (j ∷ js) _ h (kills_it {ks = ks} l r a) = (h.0, kills_in m es i e n js ks h.1 a)
kills_in m es i e n (j ∷ js) ks h (spares_it l r a) = kills_in m es i e n js ks h.1 a
kills_in m es i e n (j ∷ js) ks h (is_no_earlier l a) = kills_in m es i e n js ks h.1 a

-- the overlaps of two rules

pub record IsOfRules (outer inner : Rule) (place : ℕ) (g : Formed) : Type 0 where
  pub outer_is : g.overlap.outer ≡ outer.number
  pub outer_side_is : g.overlap.outer_side ≡ outer.side
  pub inner_is : g.overlap.inner ≡ inner.number
  pub inner_side_is : g.overlap.inner_side ≡ inner.side
  pub from : place ≤ g.overlap.position.0

from_later : (outer inner : Rule) (place : ℕ) (g : Formed) → IsOfRules outer inner (place + 1) g → IsOfRules outer inner place g
from_later outer inner place g a = let h : place + 1 ≤ g.overlap.position.0 = a.from in record { outer_is = a.outer_is; outer_side_is = a.outer_side_is; inner_is = a.inner_is; inner_side_is = a.inner_side_is; from = omega arith }

all_later : (outer inner : Rule) (place : ℕ) (fs : List Formed) → Each (IsOfRules outer inner (place + 1)) fs → Each (IsOfRules outer inner place) fs
all_later outer inner place fs a = Each-map (from_later outer inner place) fs a

no_earlier : (outer inner : Rule) (place : ℕ) (fs : List Formed) → Each (IsOfRules outer inner (place + 1)) fs → Each (λ (g : Formed). overlap_at outer inner place ≡ g.overlap → ⊥) fs
no_earlier outer inner place [] a = tt
no_earlier outer inner place (g ∷ gs) a = ((λ q. (let h : place + 1 ≤ g.overlap.position.0 = a.0.from in let same : place ≡ g.overlap.position.0 = ap (λ (v : Overlap). v.position.0) q in absurd (omega arith))), no_earlier outer inner place gs a.1)

module _ (m : Meaning) where
  lists_of : (outer inner : Rule) (place : ℕ) (fs : List Formed) → Lists m.greater outer inner place fs → Each (IsOfRules outer inner place) fs
  lists_of outer inner place _ (no_more_places l) = tt
  lists_of outer inner place fs (at_variable l a b) = all_later outer inner place fs (lists_of outer inner (place + 1) fs b)
  lists_of outer inner place fs (no_unifier l a b) = all_later outer inner place fs (lists_of outer inner (place + 1) fs b)
  lists_of outer inner place fs (repeats l a b) = all_later outer inner place fs (lists_of outer inner (place + 1) fs b)
  lists_of outer inner place fs (goes_nowhere l n a b) = all_later outer inner place fs (lists_of outer inner (place + 1) fs b)
  lists_of outer inner place fs (leads_up o a b) = all_later outer inner place fs (lists_of outer inner (place + 1) fs b)
  lists_of outer inner place _ (is_listed {list = fs} o a b c d) = (record { outer_is = refl; outer_side_is = refl; inner_is = refl; inner_side_is = refl; from = omega arith }, all_later outer inner place fs (lists_of outer inner (place + 1) fs d))

  lists_differ : (outer inner : Rule) (place : ℕ) (fs : List Formed) → Lists m.greater outer inner place fs → AllDiffer fs
  lists_differ outer inner place _ (no_more_places l) = tt
  lists_differ outer inner place fs (at_variable l a b) = lists_differ outer inner (place + 1) fs b
  lists_differ outer inner place fs (no_unifier l a b) = lists_differ outer inner (place + 1) fs b
  lists_differ outer inner place fs (repeats l a b) = lists_differ outer inner (place + 1) fs b
  lists_differ outer inner place fs (goes_nowhere l n a b) = lists_differ outer inner (place + 1) fs b
  lists_differ outer inner place fs (leads_up o a b) = lists_differ outer inner (place + 1) fs b
  lists_differ outer inner place _ (is_listed {list = fs} o a b c d) = (no_earlier outer inner place fs (lists_of outer inner (place + 1) fs d), lists_differ outer inner (place + 1) fs d)

-- lists put together

differ_append : (xs ys : List Formed) → AllDiffer xs → AllDiffer ys → Each (λ (x : Formed). Each (λ (y : Formed). x.overlap ≡ y.overlap → ⊥) ys) xs → AllDiffer (xs ++ ys)
differ_append [] ys a b c = b
differ_append (x ∷ xs) ys a b c = (Each-append (λ (y : Formed). x.overlap ≡ y.overlap → ⊥) xs ys a.0 c.0, differ_append xs ys a.1 b c.1)

apart_by : (P Q : Formed → Type 0) (xs ys : List Formed) → ((x y : Formed) → P x → Q y → x.overlap ≡ y.overlap → ⊥) → Each P xs → Each Q ys → Each (λ (x : Formed). Each (λ (y : Formed). x.overlap ≡ y.overlap → ⊥) ys) xs
apart_by P Q xs ys f a b = Each-map (λ x p. Each-map (λ y q. f x y p q) ys b) xs a

-- it is an overlap of these two facts
pub record IsOfFacts (j i : ℕ) (g : Formed) : Type 0 where
  pub outer_is : g.overlap.outer ≡ j
  pub inner_is : g.overlap.inner ≡ i

of_facts : (outer inner : Rule) (fs : List Formed) → Each (IsOfRules outer inner 0) fs → Each (IsOfFacts outer.number inner.number) fs
of_facts outer inner fs a = Each-map (λ g x. record { outer_is = x.outer_is; inner_is = x.inner_is }) fs a

pub record OfBoth (j i : ℕ) (fs : List Formed) : Type 0 where
  pub of_them : Each (IsOfFacts j i) fs
  pub differ : AllDiffer fs

of_two : (outer1 inner1 outer2 inner2 : Rule) → ((outer1.side ≡ outer2.side → ⊥) ⊎ (inner1.side ≡ inner2.side → ⊥)) → (x y : Formed) → IsOfRules outer1 inner1 0 x → IsOfRules outer2 inner2 0 y → x.overlap ≡ y.overlap → ⊥
of_two outer1 inner1 outer2 inner2 (inl ne) x y a b q = ne (sym a.outer_side_is ∙ ap (λ (v : Overlap). v.outer_side) q ∙ b.outer_side_is)
of_two outer1 inner1 outer2 inner2 (inr ne) x y a b q = ne (sym a.inner_side_is ∙ ap (λ (v : Overlap). v.inner_side) q ∙ b.inner_side_is)

left_right : (let l : Side = Left in l ≡ Right) → ⊥
left_right e = cc

module _ (m : Meaning) (j : ℕ) (a : Equation) (i : ℕ) (b : Equation) where
  pub facts_differ : (fs : List Formed) → AreOverlaps m.greater j a i b fs → OfBoth j i fs
  facts_differ _ (next_rules {list = w} l1 (next_rules {list = x} l2 (next_rules {list = y} l3 (next_rules {list = z} l4 no_rules)))) =
      let ll : Rule = read_from j Left a in
      let lr : Rule = read_from j Right a in
      let rl : Rule = read_from i Left b in
      let rr : Rule = read_from i Right b in
      let w1 = lists_of m ll rl 0 w l1 in
      let x1 = lists_of m ll rr 0 x l2 in
      let y1 = lists_of m lr rl 0 y l3 in
      let z1 = lists_of m lr rr 0 z l4 in
      let z2 : Each (IsOfRules lr rr 0) (z ++ []) = rw append-nil z1 in
      let zd : AllDiffer (z ++ []) = rw append-nil (lists_differ m lr rr 0 z l4) in
      let yz = differ_append y (z ++ []) (lists_differ m lr rl 0 y l3) zd (apart_by (IsOfRules lr rl 0) (IsOfRules lr rr 0) y (z ++ []) (of_two lr rl lr rr (inr left_right)) y1 z2) in
      let x_y = apart_by (IsOfRules ll rr 0) (IsOfRules lr rl 0) x y (of_two ll rr lr rl (inl left_right)) x1 y1 in
      let x_z = apart_by (IsOfRules ll rr 0) (IsOfRules lr rr 0) x (z ++ []) (of_two ll rr lr rr (inl left_right)) x1 z2 in
      let xyz = differ_append x (y ++ (z ++ [])) (lists_differ m ll rr 0 x l2) yz (both_apart x y (z ++ []) x_y x_z) in
      let w_x = apart_by (IsOfRules ll rl 0) (IsOfRules ll rr 0) w x (of_two ll rl ll rr (inr left_right)) w1 x1 in
      let w_y = apart_by (IsOfRules ll rl 0) (IsOfRules lr rl 0) w y (of_two ll rl lr rl (inl left_right)) w1 y1 in
      let w_z = apart_by (IsOfRules ll rl 0) (IsOfRules lr rr 0) w (z ++ []) (of_two ll rl lr rr (inl left_right)) w1 z2 in
      record {
        of_them = Each-append (IsOfFacts j i) w (x ++ (y ++ (z ++ []))) (of_facts ll rl w w1) (Each-append (IsOfFacts j i) x (y ++ (z ++ [])) (of_facts ll rr x x1) (Each-append (IsOfFacts j i) y (z ++ []) (of_facts lr rl y y1) (of_facts lr rr (z ++ []) z2)));
        differ = differ_append w (x ++ (y ++ (z ++ []))) (lists_differ m ll rl 0 w l1) xyz (both_apart w x (y ++ (z ++ [])) w_x (both_apart w y (z ++ []) w_y w_z));
      }
    where
      both_apart : (xs ys zs : List Formed) → Each (λ (x : Formed). Each (λ (y : Formed). x.overlap ≡ y.overlap → ⊥) ys) xs → Each (λ (x : Formed). Each (λ (y : Formed). x.overlap ≡ y.overlap → ⊥) zs) xs → Each (λ (x : Formed). Each (λ (y : Formed). x.overlap ≡ y.overlap → ⊥) (ys ++ zs)) xs
      both_apart [] ys zs p q = tt
      both_apart (x ∷ xs) ys zs p q = (Each-append (λ (y : Formed). x.overlap ≡ y.overlap → ⊥) ys zs p.0 q.0, both_apart xs ys zs p.1 q.1)

-- an overlap of a meeting of fact i: with no fact before number n
pub record IsOfMeeting (i n : ℕ) (g : Formed) : Type 0 where
  pub later_is : later_fact g.overlap ≡ i
  pub outer_from : n ≤ g.overlap.outer
  pub inner_from : n ≤ g.overlap.inner

record Meetings (i n : ℕ) (fs : List Formed) : Type 0 where
  of_it : Each (IsOfMeeting i n) fs
  differ : AllDiffer fs

later_of : (j i : ℕ) (g : Formed) → j ≤ i → IsOfFacts j i g → later_fact g.overlap ≡ i
later_of j i g l a = rw (a.outer_is, a.inner_is) (elim (cases_Bool (nat_lt j i)) as (λ _. cond {A = ℕ} (nat_lt j i) i j ≡ i) [
  | inl b ↦ rw b refl
  | inr b ↦ rw b (let h = ltb-false j i b in omega arith)
])

later_back : (j i : ℕ) (g : Formed) → j ≤ i → IsOfFacts i j g → later_fact g.overlap ≡ i
later_back j i g l a = rw (a.outer_is, a.inner_is) (elim (cases_Bool (nat_lt i j)) as (λ _. cond {A = ℕ} (nat_lt i j) j i ≡ i) [
  | inl b ↦ rw b (let h = ltb-true i j b in absurd (omega arith))
  | inr b ↦ rw b refl
])

module _ (m : Meaning) (es : List Entry) (i : ℕ) (f : Equation) where
  meetings_are : (n : ℕ) (js : List Live) (fs : List Formed) → n ≤ i → RiseFrom n js → AreMeetings m es i f js fs → Meetings i n fs
  meetings_are n _ fs l r (with_itself own) =
      let a = facts_differ m i f i f fs own in
      record { of_it = Each-map (λ g x. (let o : g.overlap.outer ≡ i = x.outer_is in let q : g.overlap.inner ≡ i = x.inner_is in record { later_is = later_of i i g (omega arith) x; outer_from = omega arith; inner_from = omega arith })) fs a.of_them; differ = a.differ }
  meetings_are n (j ∷ js) _ l r (with_earlier {inside = xs} {round = ys} {rest = zs} lt inside round rest) =
      let low : n ≤ j.number = r.0 in
      let a = facts_differ m j.number j.equation i f xs inside in
      let b = facts_differ m i f j.number j.equation ys round in
      let c = meetings_are (j.number + 1) js zs (omega arith) r.1 rest in
      let xa : Each (IsOfMeeting i n) xs = Each-map (λ g x. (let o : g.overlap.outer ≡ j.number = x.outer_is in let q : g.overlap.inner ≡ i = x.inner_is in record { later_is = later_of j.number i g (omega arith) x; outer_from = omega arith; inner_from = omega arith })) xs a.of_them in
      let yb : Each (IsOfMeeting i n) ys = Each-map (λ g x. (let o : g.overlap.outer ≡ i = x.outer_is in let q : g.overlap.inner ≡ j.number = x.inner_is in record { later_is = later_back j.number i g (omega arith) x; outer_from = omega arith; inner_from = omega arith })) ys b.of_them in
      let zc : Each (IsOfMeeting i n) zs = Each-map (λ g x. (let o : j.number + 1 ≤ g.overlap.outer = x.outer_from in let q : j.number + 1 ≤ g.overlap.inner = x.inner_from in record { later_is = x.later_is; outer_from = omega arith; inner_from = omega arith })) zs c.of_it in
      let x_y = apart_by (IsOfFacts j.number i) (IsOfFacts i j.number) xs ys (λ x y p q e. (let o : x.overlap.outer ≡ j.number = p.outer_is in let s : y.overlap.outer ≡ i = q.outer_is in let t : x.overlap.outer ≡ y.overlap.outer = ap (λ (v : Overlap). v.outer) e in absurd (omega arith))) a.of_them b.of_them in
      let y_z = apart_by (IsOfFacts i j.number) (IsOfMeeting i (j.number + 1)) ys zs (λ x y p q e. (let o : x.overlap.inner ≡ j.number = p.inner_is in let s : j.number + 1 ≤ y.overlap.inner = q.inner_from in let t : x.overlap.inner ≡ y.overlap.inner = ap (λ (v : Overlap). v.inner) e in absurd (omega arith))) b.of_them c.of_it in
      let x_z = apart_by (IsOfFacts j.number i) (IsOfMeeting i (j.number + 1)) xs zs (λ x y p q e. (let o : x.overlap.outer ≡ j.number = p.outer_is in let s : j.number + 1 ≤ y.overlap.outer = q.outer_from in let t : x.overlap.outer ≡ y.overlap.outer = ap (λ (v : Overlap). v.outer) e in absurd (omega arith))) a.of_them c.of_it in
      record {
        of_it = Each-append (IsOfMeeting i n) xs (ys ++ zs) xa (Each-append (IsOfMeeting i n) ys zs yb zc);
        differ = differ_append xs (ys ++ zs) a.differ (differ_append ys zs b.differ c.differ y_z) (apart_both xs ys zs x_y x_z);
      }
    where
      apart_both : (xs ys zs : List Formed) → Each (λ (x : Formed). Each (λ (y : Formed). x.overlap ≡ y.overlap → ⊥) ys) xs → Each (λ (x : Formed). Each (λ (y : Formed). x.overlap ≡ y.overlap → ⊥) zs) xs → Each (λ (x : Formed). Each (λ (y : Formed). x.overlap ≡ y.overlap → ⊥) (ys ++ zs)) xs
      apart_both [] ys zs p q = tt
      apart_both (x ∷ xs) ys zs p q = (Each-append (λ (y : Formed). x.overlap ≡ y.overlap → ⊥) ys zs p.0 q.0, apart_both xs ys zs p.1 q.1)
  meetings_are n (j ∷ js) fs l r (not_with_later ge rest) =
      meetings_are n js fs l (rise_less n (j.number + 1) js (let low : n ≤ j.number = r.0 in omega arith) r.1) rest
    where
      rise_less : (a b : ℕ) (ls : List Live) → a ≤ b → RiseFrom b ls → RiseFrom a ls
      rise_less a b [] h q = tt
      rise_less a b (x ∷ ls) h q = (let low : b ≤ x.number = q.0 in omega arith, q.1)

pub meets_rightly : (m : Meaning) (es : List Entry) (i : ℕ) (f : Equation) (ks : List ℕ) (fs : List Formed) → AreKills m es i f (live es) ks → AreMeetings m es i f (live es) fs → MeetsRightly i (length (born es)) ks fs
meets_rightly m es i f ks fs a b =
    let c = meetings_are m es i f 0 (live es) fs (omega arith) (live_rise es) b in
    record {
      kills_born = kills_in m es i f (length (born es)) (live es) ks (live_below es) a;
      later_is = Each-map (λ g x. x.later_is) fs c.of_it;
      differ = c.differ;
    }
