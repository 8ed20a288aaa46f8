-- What is found: the first that passes, and the queue's head.
use Rattle.std.proofs.Common.{◌≡◌, ℕ, suc, ◌+◌, List, [], ◌∷◌, Bool, true, cond, ◌==◌, Option, Some, None, refl, arith, inl, inr, slice_get}
use Rattle.std.proofs.lemmas.Bool.{cases_Bool}
use Rattle.uc_queue.specs.declared.entry.Entry.{Entry as Place}
use Rattle.uc_machine.specs.Lists.{At, first, later, Each}
use Rattle.uc_machine.specs.State.{State, Pair, is_waiting, queue_from, queue, peek}
use Rattle.uc_queue.specs.Queue.{is_earlier, is_lighter, lesser, least}
use Rattle.uc_machine.proofs.Lists.{Each-map}

pub record IsFound {A : Type 0} (p : A → Bool) (xs : List A) (f : At A) : Type 0 where
  pub at : slice_get xs f.number ≡ Some f.here
  pub passes : p f.here ≡ true

found_later : {A : Type 0} (p : A → Bool) (x : A) (xs : List A) (r : Option (At A)) (f : At A) → ((g : At A) → r ≡ Some g → IsFound p xs g) → later r ≡ Some f → IsFound p (x ∷ xs) f
found_later p x xs None f k e = absurd (cc)
found_later p x xs (Some g) f k e =
    let i : IsFound p xs g = k g refl in
    let same : f ≡ record { number = suc g.number; here = g.here } = cc in
    rw same (record { at = i.at; passes = i.passes })

pub first_is : {A : Type 0} (p : A → Bool) (xs : List A) (f : At A) → first p xs ≡ Some f → IsFound p xs f
first_is p [] f e = absurd (cc)
first_is {A = A} p (x ∷ xs) f e = elim (cases_Bool (p x)) [
  | inl b ↦
      let e2 : Some (let g : At A = record { number = 0; here = x } in g) ≡ Some f = rw b at e in
      let same : f ≡ record { number = 0; here = x } = cc in
      rw same (record { at = refl; passes = b })
  | inr b ↦ found_later p x xs (first p xs) f (λ g q. first_is p xs g q) (rw b at e)
]

-- an entry of the queue: the pair at a place, from n on, which waits
pub record IsPlace (n : ℕ) (ps : List Pair) (q : Place) : Type 0 where
  pub place : ℕ
  pub number : q.number ≡ n + place
  pub pair : Pair
  pub at : slice_get ps place ≡ Some pair
  pub waits : is_waiting pair.condition ≡ true
  pub weight : pair.weight ≡ q.weight

place_later : (n : ℕ) (p : Pair) (ps : List Pair) (q : Place) → IsPlace (suc n) ps q → IsPlace n (p ∷ ps) q
place_later n p ps q i = let k : q.number ≡ suc n + i.place = i.number in record { place = suc i.place; number = omega arith; pair = i.pair; at = i.at; waits = i.waits; weight = i.weight }

pub places : (n : ℕ) (ps : List Pair) → Each (IsPlace n ps) (queue_from n ps)
places n [] = tt
places n (p ∷ ps) = elim (cases_Bool (is_waiting p.condition)) as (λ _. Each (IsPlace n (p ∷ ps)) (queue_from n (p ∷ ps))) [
  | inl b ↦ rw b (record { place = 0; number = omega arith; pair = p; at = refl; waits = b; weight = refl }, Each-map (place_later n p ps) (queue_from (suc n) ps) (places (suc n) ps))
  | inr b ↦ rw b (Each-map (place_later n p ps) (queue_from (suc n) ps) (places (suc n) ps))
]

lesser_in : (P : Place → Type 0) (before : Place → Place → Bool) (p : Place) (r : Option Place) → P p → ((q : Place) → r ≡ Some q → P q) → P (lesser before p r)
lesser_in P before p None a k = a
lesser_in P before p (Some q) a k = elim (cases_Bool (before q p)) as (λ _. P (cond (before q p) q p)) [ inl b ↦ rw b (k q refl) | inr b ↦ rw b a ]

least_in : (P : Place → Type 0) (before : Place → Place → Bool) (ps : List Place) → Each P ps → (q : Place) → least before ps ≡ Some q → P q
least_in P before [] h q e = absurd (cc)
least_in P before (p ∷ ps) h q e =
    let same : lesser before p (least before ps) ≡ q = cc in
    rw (← same) (lesser_in P before p (least before ps) h.0 (λ r b. least_in P before ps h.1 r b))

-- the queue's head is a pair that waits
pub peek_is : (s : State) (q : Place) → peek s ≡ Some q → IsPlace 0 s.pairs q
peek_is s q e = elim (cases_Bool (s.draws == 4)) [
  | inl b ↦ least_in (IsPlace 0 s.pairs) is_earlier (queue s) (places 0 s.pairs) q (rw b at e)
  | inr b ↦ least_in (IsPlace 0 s.pairs) is_lighter (queue s) (places 0 s.pairs) q (rw b at e)
]
