-- What holds in every state of a run, from what every state keeps.
use Rattle.std.proofs.Common.{◌≡◌, ℕ, zero, suc, ◌+◌, ◌<◌, ◌≤◌, List, [], ◌∷◌, length, true, cond, ◌==◌, Some, refl, ap, ◌∙◌, arith, inl, inr, subst, slice_get}
use Rattle.std.specs.Prelude.{◌||◌, ◌⊎◌, count_by}
use Rattle.std.proofs.lemmas.Bool.{cases_Bool, eq-eqb, ne_eqb, cases_eq, false≢true}
use Rattle.std.proofs.lemmas.List.Sums.{sum_by-cons}
use Rattle.uc_term.specs.declared.equation.Side.{Side}
use Rattle.uc_term.specs.declared.equation.Side.TheVariants.{Left, Right}
use Rattle.uc_fact.specs.declared.fact.Overlap.{Overlap}
use Rattle.uc_fact.specs.declared.fact.Origin.{Origin}
use Rattle.uc_fact.specs.declared.fact.Origin.TheVariants.{Axiom, Overlap as OfOverlap, Revived}
use Rattle.uc_queue.specs.declared.entry.Entry.{Entry as Place}
use Rattle.uc_ledger.specs.declared.ledger.State.TheVariants.{Waiting}
use Rattle.uc_shelf.specs.declared.entry.Entry.{Entry}
use Rattle.uc_shelf.specs.declared.entry.Entry.TheVariants.{Born, Dies}
use Rattle.uc_shelf.specs.Entries.{born, is_dead}
use Rattle.uc_machine.specs.declared.state.Meeting.{Meeting}
use Rattle.uc_machine.specs.declared.state.Meeting.TheVariants.{Unmet, Visiting, Met}
use Rattle.uc_machine.specs.State.{Opening, State, Pair, dead_of, is_waiting, queue_from, queue}
use Rattle.uc_machine.specs.Events.{ended_by}
use Rattle.uc_machine.specs.Promises.{later_fact, IsOf}
use Rattle.uc_term.specs.declared.node.Pos.{Pos}
use Rattle.uc_machine.specs.Promises.{FrontsArePrefixes, TicketsDiffer, CountsUnits, CountsWorkers, EndsPairsOnce, DiesOnce, names, OverlapState, NotMet, Numbered, NoNumber, StandsAs, not_met, meeting, numbered, no_number, HasState, IsQueued, OneState}
use Rattle.uc_machine.proofs.Kept.{NotIn, Distinct, Kept, to_draw, joins}
use Rattle.uc_machine.proofs.Lists.{Each-map}
use Rattle.uc_machine.proofs.Found.{IsPlace, places}
use Rattle.uc_machine.proofs.Calls.{waits_is}

pub counts_units : (o : Opening) (s : State) → Kept o s → CountsUnits o s
counts_units o s k = record { counted = k.accounts.counted_is; reserved = k.accounts.reserved_is; within = k.accounts.within }

pub counts_workers : (o : Opening) (s : State) → Kept o s → CountsWorkers s
counts_workers o s k = record { numbers = k.accounts.numbers_are; out_are = k.accounts.balance }

pub ends_pairs_once : (o : Opening) (s : State) → Kept o s → EndsPairsOnce s
ends_pairs_once o s k p = let h : ended_by p s.history + (to_draw (slice_get s.pairs p) + joins p s.out) ≤ 1 = k.ends_once p in omega arith

pub tickets_differ : (o : Opening) (s : State) → Kept o s → TicketsDiffer s
tickets_differ o s k = record { rising = k.accounts.rising; drawn = Each-map (λ t x. x.drawn) s.out k.accounts.known }

pub fronts_are_prefixes : (o : Opening) (s : State) → Kept o s → FrontsArePrefixes s
fronts_are_prefixes o s k = Each-map (λ t x. x.front) s.out k.accounts.known

named : (i : ℕ) (es : List Entry) → is_dead es i ≡ true → 0 < count_by (names i) es
named i [] e = absurd (false≢true e)
named i (Born f ∷ es) e = let h : 0 < count_by (names i) es = named i es e in let c = sum_by-cons (λ (x : Entry). cond (names i x) 1 0) (Born f) es in omega arith
named i (Dies f k ∷ es) e = elim (cases_Bool (f == i)) [
  | inl b ↦ let c = sum_by-cons (λ (x : Entry). cond (names i x) 1 0) (Dies f k) es in let z : cond {A = ℕ} (f == i) 1 0 ≡ 1 = rw b refl in omega arith
  | inr b ↦ let h : 0 < count_by (names i) es = named i es (rw b at e) in let c = sum_by-cons (λ (x : Entry). cond (names i x) 1 0) (Dies f k) es in omega arith
]

not_named : (i : ℕ) (es : List Entry) → NotIn i (dead_of es) → count_by (names i) es ≡ 0
not_named i [] h = refl
not_named i (Born f ∷ es) h = let e : count_by (names i) es ≡ 0 = not_named i es h in let c = sum_by-cons (λ (x : Entry). cond (names i x) 1 0) (Born f) es in omega arith
not_named i (Dies f k ∷ es) h =
    let e : count_by (names i) es ≡ 0 = not_named i es h.1 in
    let c = sum_by-cons (λ (x : Entry). cond (names i x) 1 0) (Dies f k) es in
    let z : cond {A = ℕ} (f == i) 1 0 ≡ 0 = rw (ne_eqb f i h.0) refl in
    omega arith

dead_if : (i : ℕ) (es : List Entry) → 0 < count_by (names i) es → is_dead es i ≡ true
dead_if i [] h = absurd (omega arith)
dead_if i (Born f ∷ es) h = dead_if i es (let c = sum_by-cons (λ (x : Entry). cond (names i x) 1 0) (Born f) es in omega arith)
dead_if i (Dies f k ∷ es) h = elim (cases_Bool (f == i)) as (λ _. ((f == i) || is_dead es i) ≡ true) [
  | inl b ↦ rw b refl
  | inr b ↦ rw b (dead_if i es (let c = sum_by-cons (λ (x : Entry). cond (names i x) 1 0) (Dies f k) es in let z : cond {A = ℕ} (f == i) 1 0 ≡ 0 = rw b refl in omega arith))
]

once_at : (i : ℕ) (es : List Entry) → Distinct (dead_of es) → count_by (names i) es ≤ 1
once_at i [] d = omega arith
once_at i (Born f ∷ es) d = let h : count_by (names i) es ≤ 1 = once_at i es d in let c = sum_by-cons (λ (x : Entry). cond (names i x) 1 0) (Born f) es in omega arith
once_at i (Dies f k ∷ es) d =
    let c = sum_by-cons (λ (x : Entry). cond (names i x) 1 0) (Dies f k) es in
    elim (cases_eq f i) [
      | inl q ↦ let z : cond {A = ℕ} (f == i) 1 0 ≡ 1 = rw (eq-eqb f i q) refl in let n : count_by (names i) es ≡ 0 = not_named i es (subst (λ x. NotIn x (dead_of es)) q d.0) in omega arith
      | inr ne ↦ let z : cond {A = ℕ} (f == i) 1 0 ≡ 0 = rw (ne_eqb f i ne) refl in let h : count_by (names i) es ≤ 1 = once_at i es d.1 in omega arith
    ]

pub dies_once : (o : Opening) (s : State) → Kept o s → DiesOnce s
dies_once o s k = record { dead = λ i. (named i s.entries, dead_if i s.entries); once = λ i. once_at i s.entries k.facts.once; later = k.facts.later }

one_at_most : (o : Opening) (s : State) → Kept o s → (v : Overlap) (a b : OverlapState) → StandsAs s v a → StandsAs s v b → a ≡ b
one_at_most o s k v _ _ (not_met a) (not_met b) = refl
one_at_most o s k v _ _ (not_met a) (meeting b) = refl
one_at_most o s k v _ _ (not_met a) (numbered q y at b) = let m = k.numbered.met q v b in absurd (cc)
one_at_most o s k v _ _ (not_met a) (no_number m n) = absurd (cc)
one_at_most o s k v _ _ (meeting a) (not_met b) = refl
one_at_most o s k v _ _ (meeting a) (meeting b) = refl
one_at_most o s k v _ _ (meeting a) (numbered q y at b) = let m = k.numbered.met q v b in absurd (cc)
one_at_most o s k v _ _ (meeting a) (no_number m n) = absurd (cc)
one_at_most o s k v _ _ (numbered p x at a) (not_met b) = let m = k.numbered.met p v a in absurd (cc)
one_at_most o s k v _ _ (numbered p x at a) (meeting b) = let m = k.numbered.met p v a in absurd (cc)
one_at_most o s k v _ _ (numbered p x at a) (numbered q y bt b) =
    let same : p ≡ q = k.numbered.once p q v a b in
    let at2 : slice_get s.pairs q ≡ Some x = subst (λ n. slice_get s.pairs n ≡ Some x) same at in
    let e : x ≡ y = cc in ap (λ (z : Pair). Numbered p z.condition) e ∙ ap (λ n. Numbered n y.condition) same
one_at_most o s k v _ _ (numbered p x at a) (no_number m n) = absurd (n p a)
one_at_most o s k v _ _ (no_number m n) (not_met b) = absurd (cc)
one_at_most o s k v _ _ (no_number m n) (meeting b) = absurd (cc)
one_at_most o s k v _ _ (no_number m n) (numbered q y at b) = absurd (n q b)
one_at_most o s k v _ _ (no_number m n) (no_number c d) = refl

side_eq : (a b : Side) → (a ≡ b) ⊎ (a ≡ b → ⊥)
side_eq Left Left = inl refl
side_eq Left Right = inr (λ e. cc)
side_eq Right Left = inr (λ e. cc)
side_eq Right Right = inl refl

built : (a1 b1 : ℕ) (a2 b2 : Side) (a3 b3 : ℕ) (a4 b4 : Side) (a5 b5 : Pos) → a1 ≡ b1 → a2 ≡ b2 → a3 ≡ b3 → a4 ≡ b4 → a5 ≡ b5
    → (let n : Overlap = record { outer = a1; outer_side = a2; inner = a3; inner_side = a4; position = a5 } in n) ≡ record { outer = b1; outer_side = b2; inner = b3; inner_side = b4; position = b5 }
built a1 b1 a2 b2 a3 b3 a4 b4 a5 b5 p q r t u = cc

overlap_eq : (a b : Overlap) → (a ≡ b) ⊎ (a ≡ b → ⊥)
overlap_eq a b =
    elim (cases_eq a.outer b.outer) [
      | inr n ↦ inr (λ e. n (ap (λ (z : Overlap). z.outer) e))
      | inl p ↦ elim (side_eq a.outer_side b.outer_side) [
        | inr n ↦ inr (λ e. n (ap (λ (z : Overlap). z.outer_side) e))
        | inl q ↦ elim (cases_eq a.inner b.inner) [
          | inr n ↦ inr (λ e. n (ap (λ (z : Overlap). z.inner) e))
          | inl r ↦ elim (side_eq a.inner_side b.inner_side) [
            | inr n ↦ inr (λ e. n (ap (λ (z : Overlap). z.inner_side) e))
            | inl t ↦ elim (cases_eq a.position.0 b.position.0) [
              | inr n ↦ inr (λ e. n (ap (λ (z : Overlap). z.position.0) e))
              | inl u ↦ inl (built _ _ _ _ _ _ _ _ _ _ p q r t (ap (λ (z : ℕ). (let y : Pos = record { 0 = z } in y)) u))
            ]
          ]
        ]
      ]
    ]

record Has (ps : List Pair) (o : Overlap) : Type 0 where
  number : ℕ
  pair : Pair
  at : slice_get ps number ≡ Some pair
  is : IsOf ps number o

find_pair : (ps : List Pair) (o : Overlap) → Has ps o ⊎ ((p : ℕ) → IsOf ps p o → ⊥)
find_pair [] o = inr (λ p e. cc)
find_pair (x ∷ ps) o = elim (find_pair ps o) [
  | inl h ↦ inl (record { number = suc h.number; pair = h.pair; at = h.at; is = h.is })
  | inr n ↦ elim (is_of x.origin o) [
    | inl e ↦ inl (record { number = 0; pair = x; at = refl; is = ap (λ z. Some z) e })
    | inr m ↦ inr (λ p e. none_in x ps o n m p e)
  ]
]
  where
    is_of : (a : Origin) (o : Overlap) → (a ≡ OfOverlap o) ⊎ (a ≡ OfOverlap o → ⊥)
    is_of (Axiom k) o = inr (λ e. cc)
    is_of (Revived f) o = inr (λ e. cc)
    is_of (OfOverlap v) o = elim (overlap_eq v o) [ inl e ↦ inl (ap OfOverlap e) | inr n ↦ inr (λ e. n (cc)) ]

    none_in : (x : Pair) (ps : List Pair) (o : Overlap) → ((p : ℕ) → IsOf ps p o → ⊥) → (x.origin ≡ OfOverlap o → ⊥) → (p : ℕ) → IsOf (x ∷ ps) p o → ⊥
    none_in x ps o n m zero e = m (cc)
    none_in x ps o n m (suc p) e = n p e

record HasItem (xs : List Meeting) (n : ℕ) : Type 0 where
  value : Meeting
  at : slice_get xs n ≡ Some value

item_of : (xs : List Meeting) (n : ℕ) → n < length xs → HasItem xs n
item_of [] n l = absurd (omega arith)
item_of (x ∷ xs) zero l = record { value = x; at = refl }
item_of (x ∷ xs) (suc n) l = let h = item_of xs n (omega arith) in record { value = h.value; at = h.at }

by_meeting : (s : State) (o : Overlap) (m : Meeting) → slice_get s.meetings (later_fact o) ≡ Some m → HasState s o
by_meeting s o Unmet e = record { state = NotMet; stands = not_met e }
by_meeting s o Visiting e = record { state = NotMet; stands = meeting e }
by_meeting s o Met e = elim (find_pair s.pairs o) [ inl h ↦ record { state = Numbered h.number h.pair.condition; stands = numbered h.number h.pair h.at h.is } | inr n ↦ record { state = NoNumber; stands = no_number e n } ]

some_state : (s : State) (o : Overlap) → later_fact o < length s.meetings → HasState s o
some_state s o l = let h = item_of s.meetings (later_fact o) l in by_meeting s o h.value h.at

queued_at : (s : State) (q : Place) → IsPlace 0 s.pairs q → IsQueued s q
queued_at s q i = record { pair = i.pair; at = (let f : q.number ≡ 0 + i.place = i.number in let e : i.place ≡ q.number = omega arith in subst (λ n. slice_get s.pairs n ≡ Some i.pair) e i.at); waits = waits_is i.pair.condition i.waits; weight = i.weight }

-- how often a number stands in the queue

abbrev times : ℕ → List Place → ℕ
times p qs = count_by (λ (q : Place). q.number == p) qs

none_below : (n p : ℕ) (ps : List Pair) → p < n → times p (queue_from n ps) ≡ 0
none_below n p [] l = refl
none_below n p (x ∷ ps) l = elim (cases_Bool (is_waiting x.condition)) as (λ _. times p (queue_from n (x ∷ ps)) ≡ 0) [
  | inl b ↦ rw b (
      let c = sum_by-cons (λ (q : Place). cond (q.number == p) 1 0) (record { weight = x.weight; number = n }) (queue_from (suc n) ps) in
      let z : cond {A = ℕ} (n == p) 1 0 ≡ 0 = rw (ne_eqb n p (λ q. (let h : n ≡ p = q in absurd (omega arith)))) refl in
      let h : times p (queue_from (suc n) ps) ≡ 0 = none_below (suc n) p ps (omega arith) in omega arith)
  | inr b ↦ rw b (none_below (suc n) p ps (omega arith))
]

one_time : (n p : ℕ) (ps : List Pair) (x : Pair) → slice_get ps p ≡ Some x → x.condition ≡ Waiting → times (n + p) (queue_from n ps) ≡ 1
one_time n p [] x at w = absurd (cc)
one_time n zero (y ∷ ps) x at w =
    let same : y ≡ x = cc in
    let b : is_waiting y.condition ≡ true = rw (same, w) refl in
    rw b (
    let c = sum_by-cons (λ (q : Place). cond (q.number == n + 0) 1 0) (record { weight = y.weight; number = n }) (queue_from (suc n) ps) in
    let z : cond {A = ℕ} (n == n + 0) 1 0 ≡ 1 = rw (eq-eqb n (n + 0) (omega arith)) refl in
    let h : times (n + 0) (queue_from (suc n) ps) ≡ 0 = none_below (suc n) (n + 0) ps (omega arith) in omega arith)
one_time n (suc p) (y ∷ ps) x at w =
    let e : suc n + p ≡ n + suc p = omega arith in
    let h : times (n + suc p) (queue_from (suc n) ps) ≡ 1 = subst (λ k. times k (queue_from (suc n) ps) ≡ 1) e (one_time (suc n) p ps x at w) in
    elim (cases_Bool (is_waiting y.condition)) as (λ _. times (n + suc p) (queue_from n (y ∷ ps)) ≡ 1) [
      | inl b ↦ rw b (
          let c = sum_by-cons (λ (q : Place). cond (q.number == n + suc p) 1 0) (record { weight = y.weight; number = n }) (queue_from (suc n) ps) in
          let z : cond {A = ℕ} (n == n + suc p) 1 0 ≡ 0 = rw (ne_eqb n (n + suc p) (λ q. (let g : n ≡ n + suc p = q in absurd (omega arith)))) refl in omega arith)
      | inr b ↦ rw b h
    ]

pub one_state : (o : Opening) (s : State) → Kept o s → OneState s
one_state o s k = record {
  some = λ v l. some_state s v (let e : length s.meetings ≡ length (born s.entries) = k.facts.each_meets in omega arith);
  once = one_at_most o s k;
  queued = Each-map (queued_at s) (queue s) (places 0 s.pairs);
  all_queued = λ p x at w. subst (λ n. times n (queue s) ≡ 1) (let e : 0 + p ≡ p = omega arith in e) (one_time 0 p s.pairs x at w);
}
