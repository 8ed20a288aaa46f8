-- The pairs as the code holds them, and the queue of those that wait.
use Rattle.std.proofs.Common.{◌≡◌, ℕ, zero, suc, ◌+◌, ◌<◌, ◌≤◌, List, [], ◌∷◌, ◌++◌, length, get_or, set, true, false, cond, ◌==◌, Option, Some, None, refl, ap, sym, ◌∙◌, arith, inl, inr, subst, slice_get}
use Rattle.std.specs.Prelude.{nat_lt, option_map}
use Rattle.std.proofs.lemmas.Bool.{cases_Bool, ne_eqb, eq-eqb, lt-ltb, le-ltb}
use Rattle.uc_queue.specs.declared.entry.Entry.{Entry as Place}
use Rattle.uc_queue.specs.Queue.{Queue, next, without, with_entry, IsNew}
use Rattle.uc_ledger.specs.declared.ledger.State.{State as Condition}
use Rattle.uc_ledger.specs.declared.ledger.State.TheVariants.{Waiting, Out as OutTo, Done, Orphan, Large}
use Rattle.uc_rows.specs.declared.pairs.PairRow.{PairRow}
use Rattle.uc_rows.specs.RowViews.{PairsView}
use Rattle.uc_machine.specs.Lists.{change, map_option}
use Rattle.uc_machine.specs.State.{State, Pair, is_waiting, queue_from}
use Rattle.uc_rows.specs.PairRows.{pairs_of, queue_in, head_in}
use Rattle.uc_machine.proofs.Found.{IsPlace, peek_is}

-- PAIRS AND THEIR STATES

pub length-pairs_of : (rs : List PairRow) (cs : List Condition) → length cs ≡ length rs → length (pairs_of rs cs) ≡ length rs
length-pairs_of [] [] e = refl
length-pairs_of [] (c ∷ cs) e = refl
length-pairs_of (r ∷ rs) [] e = absurd (omega (arith, e))
length-pairs_of (r ∷ rs) (c ∷ cs) e = ap suc (length-pairs_of rs cs (omega (arith, e)))

abbrev pub pair_of : PairRow → Condition → Pair
pair_of r c = record { origin = r.origin; weight = r.weight; condition = c }

pub pairs_of-push : (rs : List PairRow) (cs : List Condition) (r : PairRow) (c : Condition) → length cs ≡ length rs → pairs_of (rs ++ r ∷ []) (cs ++ c ∷ []) ≡ pairs_of rs cs ++ pair_of r c ∷ []
pairs_of-push [] [] r c e = refl
pairs_of-push [] (d ∷ cs) r c e = absurd (omega (arith, e))
pairs_of-push (s ∷ rs) [] r c e = absurd (omega (arith, e))
pairs_of-push (s ∷ rs) (d ∷ cs) r c e = ap (λ z. pair_of s d ∷ z) (pairs_of-push rs cs r c (omega (arith, e)))

pub pairs_of-set : (rs : List PairRow) (cs : List Condition) (n : ℕ) (c : Condition) → pairs_of rs (set cs n c) ≡ change (λ (x : Pair). record x { condition = c }) (pairs_of rs cs) n
pairs_of-set [] cs n c = refl
pairs_of-set (r ∷ rs) [] n c = refl
pairs_of-set (r ∷ rs) (d ∷ cs) zero c = refl
pairs_of-set (r ∷ rs) (d ∷ cs) (suc n) c = ap (λ z. pair_of r d ∷ z) (pairs_of-set rs cs n c)

-- the state of a pair is the one of its number
pub condition_at : (rs : List PairRow) (cs : List Condition) (n : ℕ) (p : Pair) → slice_get (pairs_of rs cs) n ≡ Some p → slice_get cs n ≡ Some p.condition
condition_at [] cs n p e = absurd (cc)
condition_at (r ∷ rs) [] n p e = absurd (cc)
condition_at (r ∷ rs) (c ∷ cs) zero p e = let h : pair_of r c ≡ p = cc in ap (λ (z : Pair). Some z.condition) h
condition_at (r ∷ rs) (c ∷ cs) (suc n) p e = condition_at rs cs n p e

-- its row is the one of its number
pub row_at : (rs : List PairRow) (cs : List Condition) (n : ℕ) (p : Pair) (d : PairRow) → slice_get (pairs_of rs cs) n ≡ Some p → (n < length rs) × ((get_or rs n d).origin ≡ p.origin) × ((get_or rs n d).weight ≡ p.weight)
row_at [] cs n p d e = absurd (cc)
row_at (r ∷ rs) [] n p d e = absurd (cc)
row_at (r ∷ rs) (c ∷ cs) zero p d e = let h : pair_of r c ≡ p = cc in (omega arith, ap (λ (z : Pair). z.origin) h, ap (λ (z : Pair). z.weight) h)
row_at (r ∷ rs) (c ∷ cs) (suc n) p d e = let h = row_at rs cs n p d e in (omega (arith, h.0), h.1, h.2)

-- a pair is its row with its state
pub pair_at : (rs : List PairRow) (cs : List Condition) (n : ℕ) (r : PairRow) (c : Condition) → n < length rs → r ≡ get_or rs n r → slice_get cs n ≡ Some c → slice_get (pairs_of rs cs) n ≡ Some (pair_of r c)
pair_at [] cs n r c l e s = absurd (omega (arith, l))
pair_at (x ∷ rs) [] n r c l e s = absurd (cc)
pair_at (x ∷ rs) (d ∷ cs) zero r c l e s = (let f : d ≡ c = cc in ap (λ z. Some (pair_of z d)) (sym e) ∙ ap (λ z. Some (pair_of r z)) f)
pair_at (x ∷ rs) (d ∷ cs) (suc n) r c l e s = pair_at rs cs n r c (omega (arith, l)) e s

-- a number without a state has no pair
pub no_pair : (rs : List PairRow) (cs : List Condition) (n : ℕ) → slice_get cs n ≡ None → slice_get (pairs_of rs cs) n ≡ None
no_pair [] cs n e = refl
no_pair (r ∷ rs) [] n e = refl
no_pair (r ∷ rs) (c ∷ cs) zero e = absurd (cc)
no_pair (r ∷ rs) (c ∷ cs) (suc n) e = no_pair rs cs n e

-- THE QUEUE

abbrev pub place_of : Pair → ℕ → Place
place_of p n = record { weight = p.weight; number = n }

without-none : (n m : ℕ) (ps : List Pair) → n < m → without n (queue_from m ps) ≡ queue_from m ps
without-none n m [] l = refl
without-none n m (p ∷ ps) l = elim (cases_Bool (is_waiting p.condition)) as (λ _. without n (queue_from m (p ∷ ps)) ≡ queue_from m (p ∷ ps)) [
  | inl b ↦ let ne : (m == n) ≡ false = ne_eqb m n (λ q. omega (arith, q, l)) in rw (b, ne) (ap (λ z. place_of p m ∷ z) (without-none n (suc m) ps (omega (arith, l))))
  | inr b ↦ rw b (without-none n (suc m) ps (omega (arith, l)))
]

-- a pair that no more waits leaves the queue
queue-turn : (c : Condition) → is_waiting c ≡ false → (n k : ℕ) (ps : List Pair) → queue_from n (change (λ (x : Pair). record x { condition = c }) ps k) ≡ without (n + k) (queue_from n ps)
queue-turn c w n k [] = refl
queue-turn c w n zero (p ∷ ps) = elim (cases_Bool (is_waiting p.condition)) as (λ _. queue_from n (change (λ (x : Pair). record x { condition = c }) (p ∷ ps) zero) ≡ without (n + zero) (queue_from n (p ∷ ps))) [
  | inl b ↦ let e : (n == n + 0) ≡ true = eq-eqb n (n + 0) (omega arith) in rw (w, b, e) refl
  | inr b ↦ rw (w, b) (sym (without-none (n + 0) (suc n) ps (omega arith)))
]
queue-turn c w n (suc k) (p ∷ ps) =
    let e : n + suc k ≡ suc n + k = omega arith in
    let h : queue_from (suc n) (change (λ (x : Pair). record x { condition = c }) ps k) ≡ without (n + suc k) (queue_from (suc n) ps)
    = queue-turn c w (suc n) k ps ∙ ap (λ m. without m (queue_from (suc n) ps)) (sym e) in
    elim (cases_Bool (is_waiting p.condition)) as (λ _. queue_from n (change (λ (x : Pair). record x { condition = c }) (p ∷ ps) (suc k)) ≡ without (n + suc k) (queue_from n (p ∷ ps))) [
      | inl b ↦ let ne : (n == n + suc k) ≡ false = ne_eqb n (n + suc k) (λ q. omega (arith, q)) in rw (b, ne) (ap (λ z. place_of p n ∷ z) h)
      | inr b ↦ rw b h
    ]

pub queue-left : (c : Condition) → is_waiting c ≡ false → (k : ℕ) (ps : List Pair) → queue_from 0 (change (λ (x : Pair). record x { condition = c }) ps k) ≡ without k (queue_from 0 ps)
queue-left c w k ps = let e : 0 + k ≡ k = omega arith in queue-turn c w 0 k ps ∙ ap (λ m. without m (queue_from 0 ps)) e

-- a pair that didn't wait, and doesn't, changes nothing
queue-kept : (c : Condition) → is_waiting c ≡ false → (n k : ℕ) (ps : List Pair) (x : Pair) → slice_get ps k ≡ Some x → is_waiting x.condition ≡ false → queue_from n (change (λ (y : Pair). record y { condition = c }) ps k) ≡ queue_from n ps
queue-kept c w n k [] x e v = refl
queue-kept c w n zero (p ∷ ps) x e v =
    let same : p ≡ x = cc in
    let no : is_waiting p.condition ≡ false = ap (λ (z : Pair). is_waiting z.condition) same ∙ v in rw (w, no) refl
queue-kept c w n (suc k) (p ∷ ps) x e v = ap (λ z. cond (is_waiting p.condition) (place_of p n ∷ z) z) (queue-kept c w (suc n) k ps x e v)

pub queue-same : (c : Condition) → is_waiting c ≡ false → (k : ℕ) (ps : List Pair) (x : Pair) → slice_get ps k ≡ Some x → is_waiting x.condition ≡ false → queue_from 0 (change (λ (y : Pair). record y { condition = c }) ps k) ≡ queue_from 0 ps
queue-same c w k ps x e v = queue-kept c w 0 k ps x e v

-- a pair that waits again comes back into the queue
with_entry-first : (p : Place) (m : ℕ) (ps : List Pair) → p.number < m → with_entry p (queue_from m ps) ≡ p ∷ queue_from m ps
with_entry-first p m [] l = refl
with_entry-first p m (x ∷ ps) l = elim (cases_Bool (is_waiting x.condition)) as (λ _. with_entry p (queue_from m (x ∷ ps)) ≡ p ∷ queue_from m (x ∷ ps)) [
  | inl b ↦ let t : nat_lt p.number m ≡ true = lt-ltb p.number m l in rw b (rw t refl)
  | inr b ↦ rw b (with_entry-first p (suc m) ps (omega (arith, l)))
]

queue-back : (n k : ℕ) (ps : List Pair) (x : Pair) → slice_get ps k ≡ Some x → is_waiting x.condition ≡ false
    → queue_from n (change (λ (y : Pair). record y { condition = Waiting }) ps k) ≡ with_entry (place_of x (n + k)) (queue_from n ps)
queue-back n k [] x e w = absurd (cc)
queue-back n zero (y ∷ ps) x e w =
    let same : y ≡ x = cc in
    let z : n ≡ n + 0 = omega arith in
    let no_wait : is_waiting y.condition ≡ false = ap (λ (q : Pair). is_waiting q.condition) same ∙ w in
    let f : with_entry (place_of x (n + 0)) (queue_from (suc n) ps) ≡ place_of x (n + 0) ∷ queue_from (suc n) ps = with_entry-first (place_of x (n + 0)) (suc n) ps (omega arith) in
    rw no_wait (ap (λ q. place_of q n ∷ queue_from (suc n) ps) same ∙ ap (λ m. place_of x m ∷ queue_from (suc n) ps) z ∙ sym f)
queue-back n (suc k) (y ∷ ps) x e w =
    let s : n + suc k ≡ suc n + k = omega arith in
    let ih : queue_from (suc n) (change (λ (q : Pair). record q { condition = Waiting }) ps k) ≡ with_entry (place_of x (n + suc k)) (queue_from (suc n) ps)
    = queue-back (suc n) k ps x e w ∙ ap (λ m. with_entry (place_of x m) (queue_from (suc n) ps)) (sym s) in
    elim (cases_Bool (is_waiting y.condition)) as (λ _. queue_from n (change (λ (q : Pair). record q { condition = Waiting }) (y ∷ ps) (suc k)) ≡ with_entry (place_of x (n + suc k)) (queue_from n (y ∷ ps))) [
      | inl b ↦ let t : nat_lt (n + suc k) n ≡ false = le-ltb (n + suc k) n (omega arith) in rw b (rw t (ap (λ z. place_of y n ∷ z) ih))
      | inr b ↦ rw b ih
    ]

pub queue-again : (k : ℕ) (ps : List Pair) (x : Pair) → slice_get ps k ≡ Some x → is_waiting x.condition ≡ false → queue_from 0 (change (λ (y : Pair). record y { condition = Waiting }) ps k) ≡ with_entry (place_of x k) (queue_from 0 ps)
queue-again k ps x e w = let z : 0 + k ≡ k = omega arith in queue-back 0 k ps x e w ∙ ap (λ m. with_entry (place_of x m) (queue_from 0 ps)) z

-- one pair more
pub queue-push_quiet : (n : ℕ) (ps : List Pair) (p : Pair) → is_waiting p.condition ≡ false → queue_from n (ps ++ p ∷ []) ≡ queue_from n ps
queue-push_quiet n [] p w = rw w refl
queue-push_quiet n (x ∷ ps) p w = ap (λ z. cond (is_waiting x.condition) (place_of x n ∷ z) z) (queue-push_quiet (suc n) ps p w)

queue-push_from : (n : ℕ) (ps : List Pair) (p : Pair) → is_waiting p.condition ≡ true → queue_from n (ps ++ p ∷ []) ≡ with_entry (place_of p (n + length ps)) (queue_from n ps)
queue-push_from n [] p w = let e : n ≡ n + 0 = omega arith in rw w (ap (λ m. place_of p m ∷ []) e)
queue-push_from n (x ∷ ps) p w =
    let s : suc n + length ps ≡ n + suc (length ps) = omega arith in
    let ih : queue_from (suc n) (ps ++ p ∷ []) ≡ with_entry (place_of p (n + suc (length ps))) (queue_from (suc n) ps)
    = queue-push_from (suc n) ps p w ∙ ap (λ m. with_entry (place_of p m) (queue_from (suc n) ps)) s in
    elim (cases_Bool (is_waiting x.condition)) as (λ _. queue_from n ((x ∷ ps) ++ p ∷ []) ≡ with_entry (place_of p (n + length (x ∷ ps))) (queue_from n (x ∷ ps))) [
      | inl b ↦ let t : nat_lt (n + suc (length ps)) n ≡ false = le-ltb (n + suc (length ps)) n (omega arith) in rw b (rw t (ap (λ z. place_of x n ∷ z) ih))
      | inr b ↦ rw b ih
    ]

pub queue-push : (ps : List Pair) (p : Pair) → is_waiting p.condition ≡ true → queue_from 0 (ps ++ p ∷ []) ≡ with_entry (place_of p (length ps)) (queue_from 0 ps)
queue-push ps p w = let z : 0 + length ps ≡ length ps = omega arith in queue-push_from 0 ps p w ∙ ap (λ m. with_entry (place_of p m) (queue_from 0 ps)) z

-- NUMBERS THAT THE QUEUE LACKS

new-below : (n m : ℕ) (ps : List Pair) → n < m → IsNew n (queue_from m ps)
new-below n m [] l = tt
new-below n m (p ∷ ps) l = elim (cases_Bool (is_waiting p.condition)) as (λ _. IsNew n (queue_from m (p ∷ ps))) [
  | inl b ↦ rw b ((λ e. omega (arith, e, l)), new-below n (suc m) ps (omega (arith, l)))
  | inr b ↦ rw b (new-below n (suc m) ps (omega (arith, l)))
]

new-past_from : (n k : ℕ) (ps : List Pair) → n + length ps ≤ k → IsNew k (queue_from n ps)
new-past_from n k [] l = tt
new-past_from n k (p ∷ ps) l = elim (cases_Bool (is_waiting p.condition)) as (λ _. IsNew k (queue_from n (p ∷ ps))) [
  | inl b ↦ rw b ((λ e. omega (arith, e, l)), new-past_from (suc n) k ps (omega (arith, l)))
  | inr b ↦ rw b (new-past_from (suc n) k ps (omega (arith, l)))
]

pub new-past : (ps : List Pair) → IsNew (length ps) (queue_from 0 ps)
new-past ps = new-past_from 0 (length ps) ps (omega arith)

new-quiet_from : (n k : ℕ) (ps : List Pair) (x : Pair) → slice_get ps k ≡ Some x → is_waiting x.condition ≡ false → IsNew (n + k) (queue_from n ps)
new-quiet_from n k [] x e w = tt
new-quiet_from n zero (p ∷ ps) x e w =
    let same : p ≡ x = cc in
    let no : is_waiting p.condition ≡ false = ap (λ (z : Pair). is_waiting z.condition) same ∙ w in
    rw no (new-below (n + 0) (suc n) ps (omega arith))
new-quiet_from n (suc k) (p ∷ ps) x e w =
    let s : suc n + k ≡ n + suc k = omega arith in
    let h : IsNew (n + suc k) (queue_from (suc n) ps) = subst (λ m. IsNew m (queue_from (suc n) ps)) s (new-quiet_from (suc n) k ps x e w) in
    elim (cases_Bool (is_waiting p.condition)) as (λ _. IsNew (n + suc k) (queue_from n (p ∷ ps))) [
      | inl b ↦ rw b ((λ q. omega (arith, q)), h)
      | inr b ↦ rw b h
    ]

pub new-quiet : (k : ℕ) (ps : List Pair) (x : Pair) → slice_get ps k ≡ Some x → is_waiting x.condition ≡ false → IsNew k (queue_from 0 ps)
new-quiet k ps x e w = let z : 0 + k ≡ k = omega arith in subst (λ m. IsNew m (queue_from 0 ps)) z (new-quiet_from 0 k ps x e w)

-- THE HEAD

state_with : PairsView → State
state_with p = record { entries = []; meetings = []; pairs = p.pairs; draws = p.draws; goals = []; out = []; counted = 0; reserved = 0; verdict = None; numbers = []; history = [] }

-- what the next draw takes is a pair that waits
pub head_place : (p : PairsView) (q : Place) → head_in p ≡ Some q → IsPlace 0 p.pairs q
unfolding state_with
head_place p q e = peek_is (state_with p) q e

is_waits : (c : Condition) → is_waiting c ≡ true → c ≡ Waiting
is_waits Waiting e = refl
is_waits (OutTo w) e = absurd (cc)
is_waits Done e = absurd (cc)
is_waits Orphan e = absurd (cc)
is_waits Large e = absurd (cc)

pub record IsHeadPair (p : PairsView) (number : ℕ) : Type 0 where
  pub place : Place
  pub pair : Pair
  pub is : head_in p ≡ Some place
  pub number_is : place.number ≡ number
  pub at : slice_get p.pairs number ≡ Some pair
  pub waits : pair.condition ≡ Waiting

pub head_pair : (p : PairsView) (number : ℕ) (o : Option Place) → head_in p ≡ o → option_map (λ (e : Place). e.number) o ≡ Some number → IsHeadPair p number
head_pair p number None h e = absurd (cc)
head_pair p number (Some q) h e =
    let same : q.number ≡ number = cc in
    let i = head_place p q h in
    let n : i.place ≡ number = (let k : q.number ≡ 0 + i.place = i.number in omega (arith, k, same)) in
    record {
      place = q;
      pair = i.pair;
      is = h;
      number_is = same;
      at = subst (λ m. slice_get p.pairs m ≡ Some i.pair) n i.at;
      waits = is_waits i.pair.condition i.waits;
    }

-- the queue's own head is the one of these pairs
pub head_same : (q : Queue) (p : PairsView) → q.waiting ≡ queue_in p → q.draws ≡ p.draws → next q ≡ head_in p
head_same q p e d = ap (λ ws. next (record { waiting = ws; draws = q.draws; spare = 0 })) e ∙ ap (λ n. next (record { waiting = queue_in p; draws = n; spare = 0 })) d

-- the condition of a pair that is out, by its number
pub found_pair : (ps : List Pair) (number : ℕ) (c : Condition) (o : Option Pair) → slice_get ps number ≡ o → map_option (λ (x : Pair). x.condition) o ≡ Some c → (x : Pair) × (slice_get ps number ≡ Some x) × (x.condition ≡ c)
found_pair ps number c None h e = absurd (cc)
found_pair ps number c (Some x) h e = (x, h, (let f : x.condition ≡ c = cc in f))
