-- Orphans that leave the queue: it gets shorter, and the rules before stay gone through.
use Rattle.std.proofs.Common.{◌≡◌, ℕ, zero, suc, ◌+◌, ◌-◌, ◌<◌, ◌≤◌, List, [], ◌∷◌, ◌++◌, length, take, true, false, Option, Some, None, refl, ap, sym, ◌∙◌, arith, inl, inr, subst, slice_get}
use Rattle.std.proofs.lemmas.Bool.{cases_Bool}
use Rattle.std.proofs.lemmas.List.{length-append}
use Rattle.std.proofs.Math.Seq.{take-append_seam}
use Rattle.uc_queue.specs.declared.entry.Entry.{Entry as Place}
use Rattle.uc_ledger.specs.declared.ledger.State.{State as Condition}
use Rattle.uc_ledger.specs.declared.ledger.State.TheVariants.{Waiting, Orphan}
use Rattle.uc_machine.specs.Lists.{change, map_option}
use Rattle.std.specs.Prelude.{option_map}
use Rattle.uc_machine.specs.declared.event.Event.{Event}
use Rattle.uc_machine.specs.declared.event.Happening.TheVariants.{Dropped as DropOf}
use Rattle.uc_book.specs.Dropping.{WasDropped, Dropped, none_dropped, one_more_dropped}
use Rattle.uc_machine.specs.State.{Opening, State, Pair, next_draws, is_waiting, queue_from, queue, peek, is_orphan}
use Rattle.uc_machine.specs.Effects.{drops, next_ticket}
use Rattle.uc_machine.specs.Draws.{Reply, Draws, NoneUnmet, orphan_is_dropped}
use Rattle.uc_machine.proofs.Found.{IsPlace, peek_is}
use Rattle.uc_rows.specs.RowViews.{PairsView}
use Rattle.uc_rows.specs.PairRows.{head_in}
use Rattle.uc_rows.proofs.PairRows.{head_pair}
use Rattle.uc_book.proofs.Histories.{draws-none}

-- a pair that waited and doesn't wait any more leaves the queue by one
pub queue_shorter : (c : Condition) → is_waiting c ≡ false → (n k : ℕ) (ps : List Pair) (x : Pair) → slice_get ps k ≡ Some x → is_waiting x.condition ≡ true
    → length (queue_from n (change (λ (y : Pair). record y { condition = c }) ps k)) + 1 ≡ length (queue_from n ps)
queue_shorter c w n k [] x e y = absurd (cc)
queue_shorter c w n zero (p ∷ ps) x e y = (let same : p ≡ x = cc in let b : is_waiting p.condition ≡ true = ap (λ (z : Pair). is_waiting z.condition) same ∙ y in rw (w, b) (omega arith))
queue_shorter c w n (suc k) (p ∷ ps) x e y = (let ih = queue_shorter c w (suc n) k ps x e y in elim (cases_Bool (is_waiting p.condition)) as (λ _. length (queue_from n (change (λ (y : Pair). record y { condition = c }) (p ∷ ps) (suc k))) + 1 ≡ length (queue_from n (p ∷ ps))) [ inl b ↦ rw b (omega arith) | inr b ↦ rw b ih ])

pub dropped_shorter : (w : ℕ) (s : State) (q : Place) → peek s ≡ Some q → length (queue (drops w q.number s)) + 1 ≡ length (queue s)
dropped_shorter w s q e =
    let i : IsPlace 0 s.pairs q = peek_is s q e in
    let at : slice_get s.pairs q.number ≡ Some i.pair = ap (λ n. slice_get s.pairs n) (let z : q.number ≡ 0 + i.place = i.number in let y : q.number ≡ i.place = omega arith in y) ∙ i.at in
    queue_shorter Orphan refl 0 q.number s.pairs i.pair at i.waits

pub still_none_unmet : (w n : ℕ) (s : State) → NoneUnmet s → NoneUnmet (drops w n s)
still_none_unmet w n s h = record { none_due = record { open_ = h.none_due.open_; none_due = h.none_due.none_due }; none_unmet = h.none_unmet }

-- an entry of which the number is known
pub record HasNumber (found : Option Place) (n : ℕ) : Type 0 where
  pub place : Place
  pub is : found ≡ Some place
  pub number_is : place.number ≡ n

pub has_number : (found : Option Place) (n : ℕ) → option_map (λ (p : Place). p.number) found ≡ Some n → HasNumber found n
has_number None n e = absurd (cc)
has_number (Some p) n e = record { place = p; is = refl; number_is = (cc) }

module _ (w n : ℕ) (s s2 : State) (head : option_map (λ (p : Place). p.number) (peek s) ≡ Some n) (after : s2 ≡ drops w n s) where
  pub dropped_fewer : length (queue s2) + 1 ≡ length (queue s)
  dropped_fewer = (let h = has_number (peek s) n head in ap (λ (t : State). length (queue t) + 1) after ∙ ap (λ k. length (queue (drops w k s)) + 1) (sym h.number_is) ∙ dropped_shorter w s h.place h.is)

  pub dropped_met : NoneUnmet s → NoneUnmet s2
  dropped_met m = subst NoneUnmet (sym after) (still_none_unmet w n s m)

  pub dropped_ticket : next_ticket s2 ≡ next_ticket s
  dropped_ticket = ap next_ticket after ∙ ap length (draws-none s.history (record { worker = w; what = DropOf n }) refl)

  pub dropped_leads : NoneUnmet s → is_orphan s n ≡ true → (o : Opening) (r : Reply) (u : State) → Draws o w s2 r u → Draws o w s r u
  dropped_leads m orphan o r u d =
      let h = has_number (peek s) n head in
      let one : Draws o w (drops w n s) r u = subst (λ t. Draws o w t r u) after d in
      let two : Draws o w (drops w h.place.number s) r u = subst (λ k. Draws o w (drops w k s) r u) (sym h.number_is) one in
      let bad : is_orphan s h.place.number ≡ true = subst (λ k. is_orphan s k ≡ true) (sym h.number_is) orphan in
      orphan_is_dropped h.place m h.is bad two

-- A DROP TAKEN BACK

-- a pair that waited waits again
changed_back : (ps : List Pair) (n : ℕ) → map_option (λ (x : Pair). x.condition) (slice_get ps n) ≡ Some Waiting → change (λ (x : Pair). record x { condition = Waiting }) (change (λ (x : Pair). record x { condition = Orphan }) ps n) n ≡ ps
changed_back [] n e = refl
changed_back (p ∷ ps) zero e = (let c : p.condition ≡ Waiting = cc in ap (λ (d : Condition). record p { condition = d } ∷ ps) (sym c))
changed_back (p ∷ ps) (suc n) e = ap (λ z. p ∷ z) (changed_back ps n e)

-- it is found as an orphan
orphan_there : (ps : List Pair) (n : ℕ) → map_option (λ (x : Pair). x.condition) (slice_get ps n) ≡ Some Waiting → map_option (λ (x : Pair). x.condition) (slice_get (change (λ (x : Pair). record x { condition = Orphan }) ps n) n) ≡ Some Orphan
orphan_there [] n e = absurd (cc)
orphan_there (p ∷ ps) zero e = refl
orphan_there (p ∷ ps) (suc n) e = orphan_there ps n e

-- one draw less, modulo 5
one_less : (n m : ℕ) → n < 5 → m < 5 → next_draws n ≡ next_draws m → n ≡ m
one_less n m a b e = omega (arith, a, b, e)

-- a state by its fields
same_state : (a b : State) → a.entries ≡ b.entries → a.meetings ≡ b.meetings → a.pairs ≡ b.pairs → a.draws ≡ b.draws → a.goals ≡ b.goals → a.out ≡ b.out → a.counted ≡ b.counted → a.reserved ≡ b.reserved → a.verdict ≡ b.verdict → a.numbers ≡ b.numbers → a.history ≡ b.history → a ≡ b
same_state a b e m p d g o c r v n h =
    let x : State = record { entries = a.entries; meetings = a.meetings; pairs = a.pairs; draws = a.draws; goals = a.goals; out = a.out; counted = a.counted; reserved = a.reserved; verdict = a.verdict; numbers = a.numbers; history = a.history } in
    let y : State = record { entries = b.entries; meetings = b.meetings; pairs = b.pairs; draws = b.draws; goals = b.goals; out = b.out; counted = b.counted; reserved = b.reserved; verdict = b.verdict; numbers = b.numbers; history = b.history } in
    let k : x ≡ y = cc in k

-- what is the state after a drop, but for the pair, its draw and its event, is the state before it
pub undropped : (w p : ℕ) (s u t : State) → WasDropped w p s u → t.entries ≡ u.entries → t.meetings ≡ u.meetings → t.pairs ≡ change (λ (x : Pair). record x { condition = Waiting }) u.pairs p → next_draws t.draws ≡ u.draws → t.draws < 5 → t.goals ≡ u.goals → t.out ≡ u.out → t.counted ≡ u.counted
    → t.reserved ≡ u.reserved → t.verdict ≡ u.verdict → t.numbers ≡ u.numbers → t.history ≡ take (length u.history - 1) u.history → t ≡ s
undropped w p s u t d entries meetings pairs draws few goals out counted reserved verdict numbers history =
    let a : u ≡ drops w p s = d.is in
    let ps : t.pairs ≡ s.pairs = pairs ∙ ap (λ (x : State). change (λ (y : Pair). record y { condition = Waiting }) x.pairs p) a ∙ changed_back s.pairs p d.waited in
    let ds : t.draws ≡ s.draws = one_less t.draws s.draws few d.modulo (draws ∙ ap (λ (x : State). x.draws) a) in
    let hs : t.history ≡ s.history = history ∙ ap (λ (x : State). take (length x.history - 1) x.history) a ∙ last_off s.history (record { worker = w; what = DropOf p }) in
    same_state t s (entries ∙ ap (λ (x : State). x.entries) a) (meetings ∙ ap (λ (x : State). x.meetings) a) ps ds (goals ∙ ap (λ (x : State). x.goals) a) (out ∙ ap (λ (x : State). x.out) a) (counted ∙ ap (λ (x : State). x.counted) a) (reserved ∙ ap (λ (x : State). x.reserved) a) (verdict ∙ ap (λ (x : State). x.verdict) a) (numbers ∙ ap (λ (x : State). x.numbers) a) hs
  where
    last_off : (es : List Event) (e : Event) → take (length (es ++ e ∷ []) - 1) (es ++ e ∷ []) ≡ es
    last_off es e = (let n : length (es ++ e ∷ []) - 1 ≡ length es = omega (arith, length-append es (e ∷ [])) in ap (λ k. take k (es ++ e ∷ [])) n ∙ take-append_seam es (e ∷ []))

-- the last of some drops, where the history got longer
pub record LastDrop (w : ℕ) (start u : State) : Type 0 where
  pub pair : ℕ
  pub before : State
  pub dropped : WasDropped w pair before u
  pub earlier : Dropped w start before

dropped_length : (w p : ℕ) (s u : State) → WasDropped w p s u → length u.history ≡ length s.history + 1
dropped_length w p s u d = ap (λ (x : State). length x.history) d.is ∙ length-append s.history (record { worker = w; what = DropOf p } ∷ [])

pub no_shorter : (w : ℕ) (start u : State) → Dropped w start u → length start.history ≤ length u.history
no_shorter w start _ none_dropped = omega arith
no_shorter w start u (one_more_dropped {s = s} p d e) = omega (arith, no_shorter w start s d, dropped_length w p s u e)

pub last_drop : (w : ℕ) (start u : State) → Dropped w start u → length start.history < length u.history → LastDrop w start u
last_drop w start _ none_dropped l = absurd (omega (arith, l))
last_drop w start u (one_more_dropped {s = s} p d e) l = record { pair = p; before = s; dropped = e; earlier = d }

pub none_left : (w : ℕ) (start u : State) → Dropped w start u → length u.history ≤ length start.history → u ≡ start
none_left w start _ none_dropped l = refl
none_left w start u (one_more_dropped {s = s} p d e) l = absurd (omega (arith, l, no_shorter w start s d, dropped_length w p s u e))

-- the event of a drop is the last one
last_same : (xs ys : List Event) (a b : Event) → xs ++ a ∷ [] ≡ ys ++ b ∷ [] → a ≡ b
last_same [] [] a b e = cc
last_same [] (y ∷ ys) a b e = absurd (let n : length (a ∷ []) ≡ length (y ∷ ys ++ b ∷ []) = ap length e in omega (arith, n, length-append ys (b ∷ [])))
last_same (x ∷ xs) [] a b e = absurd (let n : length (x ∷ xs ++ a ∷ []) ≡ length (b ∷ []) = ap length e in omega (arith, n, length-append xs (a ∷ [])))
last_same (x ∷ xs) (y ∷ ys) a b e = (let t : xs ++ a ∷ [] ≡ ys ++ b ∷ [] = cc in last_same xs ys a b t)

pub drop_event : (w p n : ℕ) (s u : State) (rest : List Event) (e : Event) → WasDropped w p s u → u.history ≡ rest ++ e ∷ [] → e.what ≡ DropOf n → p ≡ n
drop_event w p n s u rest e d is what =
    let same : e ≡ record { worker = w; what = DropOf p } = last_same rest s.history e (record { worker = w; what = DropOf p }) (sym is ∙ ap (λ (x : State). x.history) d.is) in
    let k : DropOf p ≡ DropOf n = sym (ap (λ (x : Event). x.what) same) ∙ what in cc

-- its pair is an orphan
pub drop_orphan : (w p n : ℕ) (s u : State) → WasDropped w p s u → p ≡ n → map_option (λ (x : Pair). x.condition) (slice_get u.pairs n) ≡ Some Orphan
drop_orphan w p n s u d e =
    subst (λ k. map_option (λ (x : Pair). x.condition) (slice_get u.pairs k) ≡ Some Orphan) e (ap (λ (x : State). map_option (λ (y : Pair). y.condition) (slice_get x.pairs p)) d.is ∙ orphan_there s.pairs p d.waited)

-- the drop at the head: its pair waited
pub head_dropped : (w n : ℕ) (p : PairsView) (s u : State) → s.pairs ≡ p.pairs → s.draws ≡ p.draws → head_in p ≡ peek s → option_map (λ (q : Place). q.number) (peek s) ≡ Some n → p.draws < 5 → u ≡ drops w n s → WasDropped w n s u
head_dropped w n p s u pairs draws head is few after =
    let h = head_pair p n (head_in p) refl (ap (option_map (λ (q : Place). q.number)) head ∙ is) in
    record {
      waited = ap (λ (ps : List Pair). map_option (λ (x : Pair). x.condition) (slice_get ps n)) pairs ∙ ap (map_option (λ (x : Pair). x.condition)) h.at ∙ ap (λ c. Some c) h.waits;
      modulo = omega (arith, few, draws);
      is = after;
    }
