-- The pairs and their queue, when one of them changes or is new.
use Rattle.std.proofs.Common.{◌≡◌, ℕ, ◌<◌, List, [], ◌∷◌, ◌++◌, length, get_or, set, false, cond, Option, Some, None, refl, ap, sym, ◌∙◌, inl, inr, subst, slice_get}
use Rattle.std.specs.Prelude.{option_map}
use Rattle.std.proofs.lemmas.Bool.{cases_Bool}
use Rattle.uc_queue.specs.declared.entry.Entry.{Entry as Place}
use Rattle.uc_queue.specs.Queue.{next, without, with_entry, IsNew}
use Rattle.uc_ledger.specs.declared.ledger.State.{State as Condition}
use Rattle.uc_ledger.specs.declared.ledger.State.TheVariants.{Waiting}
use Rattle.uc_machine.specs.Lists.{change, map_option}
use Rattle.uc_machine.specs.State.{Pair, is_waiting, queue_from}
use Rattle.uc_rows.specs.declared.pairs.PairRow.{PairRow}
use Rattle.uc_rows.specs.declared.pairs.Pairs.TheInside.{Inside}
use Rattle.uc_rows.specs.RowViews.{PairsView}
use Rattle.uc_rows.specs.PairRows.{pairs_of, pairs_view, ArePairs, head_in, IsHead}
use Rattle.uc_rows.proofs.PairRows.{pair_of, place_of, pairs_of-push, pairs_of-set, condition_at, row_at, queue-left, queue-same, queue-again, queue-push, queue-push_quiet, new-past, new-quiet, length-pairs_of, head_pair, head_same, found_pair}

-- the queue's own head is that of the pairs
pub inside_head : (i : Inside) (v : PairsView) → ArePairs i → pairs_view i ≡ v → next i.queue ≡ head_in v
inside_head i v a e = subst (λ (w : PairsView). next i.queue ≡ head_in w) e (head_same i.queue (pairs_view i) a.queue refl)

-- the pair at the head waits, by its state too
pub head_waits : (i : Inside) (v : PairsView) (n : ℕ) → pairs_view i ≡ v → option_map (λ (e : Place). e.number) (head_in v) ≡ Some n → slice_get i.states.states n ≡ Some Waiting
head_waits i v n e h =
    let p = head_pair v n (head_in v) refl h in
    condition_at i.rows.items i.states.states n p.pair (subst (λ (w : PairsView). slice_get w.pairs n ≡ Some p.pair) (sym e) p.at) ∙ ap (λ c. Some c) p.waits

-- a pair of which the state is known
pub record IsPairIn (i : Inside) (n : ℕ) (c : Condition) : Type 0 where
  pub pair : Pair
  pub at : slice_get (pairs_of i.rows.items i.states.states) n ≡ Some pair
  pub condition : pair.condition ≡ c
  pub state : slice_get i.states.states n ≡ Some c

pub pair_in : (i : Inside) (v : PairsView) (n : ℕ) (c : Condition) → pairs_view i ≡ v → map_option (λ (x : Pair). x.condition) (slice_get v.pairs n) ≡ Some c → IsPairIn i n c
pair_in i v n c e h =
    let f = found_pair v.pairs n c (slice_get v.pairs n) refl h in
    let at : slice_get (pairs_of i.rows.items i.states.states) n ≡ Some f.0 = subst (λ (w : PairsView). slice_get w.pairs n ≡ Some f.0) (sym e) f.1 in
    record { pair = f.0; at = at; condition = f.2; state = condition_at i.rows.items i.states.states n f.0 at ∙ ap (λ d. Some d) f.2 }

module _ (rows : List PairRow) (cs ds : List Condition) (n : ℕ) (c : Condition) (turns : ds ≡ set cs n c) where
  pub turned : pairs_of rows ds ≡ change (λ (x : Pair). record x { condition = c }) (pairs_of rows cs) n
  turned = ap (pairs_of rows) turns ∙ pairs_of-set rows cs n c

  -- a pair that waited leaves the queue
  pub queue_left : (v w : List Place) → is_waiting c ≡ false → v ≡ queue_from 0 (pairs_of rows cs) → w ≡ without n v → w ≡ queue_from 0 (pairs_of rows ds)
  queue_left v w q a b = b ∙ ap (without n) a ∙ sym (queue-left c q n (pairs_of rows cs)) ∙ ap (queue_from 0) (sym turned)

  -- one that didn't wait, and doesn't, changes nothing
  pub queue_stays : (x : Pair) (v w : List Place) → is_waiting c ≡ false → slice_get (pairs_of rows cs) n ≡ Some x → is_waiting x.condition ≡ false → v ≡ queue_from 0 (pairs_of rows cs) → w ≡ v → w ≡ queue_from 0 (pairs_of rows ds)
  queue_stays x v w q at quiet a b = b ∙ a ∙ sym (queue-same c q n (pairs_of rows cs) x at quiet) ∙ ap (queue_from 0) (sym turned)

-- one that is out waits again
pub queue_again : (rows : List PairRow) (cs ds : List Condition) (n k : ℕ) (x : Pair) (v w : List Place) → ds ≡ set cs n Waiting → slice_get (pairs_of rows cs) n ≡ Some x → is_waiting x.condition ≡ false → k ≡ x.weight
    → v ≡ queue_from 0 (pairs_of rows cs) → w ≡ with_entry (record { weight = k; number = n }) v → w ≡ queue_from 0 (pairs_of rows ds)
queue_again rows cs ds n k x v w turns at quiet weight a b =
    b ∙ ap (λ m. with_entry (record { weight = m; number = n }) v) weight ∙ ap (with_entry (place_of x n)) a ∙ sym (queue-again n (pairs_of rows cs) x at quiet) ∙ ap (queue_from 0) (sym (turned rows cs ds n Waiting turns))

pair_below : (rows : List PairRow) (cs : List Condition) (n : ℕ) (p : Pair) → slice_get (pairs_of rows cs) n ≡ Some p → n < length rows
pair_below [] cs n p e = absurd (cc)
pair_below (r ∷ rs) cs n p e = (row_at (r ∷ rs) cs n p r e).0

-- the weight of a pair is that of its row
pub row_weight : (i : Inside) (n : ℕ) (c : Condition) (row : PairRow) (p : IsPairIn i n c) → row ≡ get_or i.rows.items n row → row.weight ≡ p.pair.weight
row_weight i n c row p e = ap (λ (r : PairRow). r.weight) e ∙ (row_at i.rows.items i.states.states n p.pair row p.at).2

pub row_inside : (i : Inside) (n : ℕ) (c : Condition) → IsPairIn i n c → n < length i.rows.items
row_inside i n c p = pair_below i.rows.items i.states.states n p.pair p.at

-- one pair more
pub queue_more : (rows : List PairRow) (cs : List Condition) (r : PairRow) (c : Condition) (n : ℕ) (v w : List Place) → length cs ≡ length rows → n ≡ length rows → v ≡ queue_from 0 (pairs_of rows cs)
    → w ≡ cond (is_waiting c) (with_entry (record { weight = r.weight; number = n }) v) v → w ≡ queue_from 0 (pairs_of (rows ++ r ∷ []) (cs ++ c ∷ []))
queue_more rows cs r c n v w many number a b =
    let ps = pairs_of rows cs in
    let k : n ≡ length ps = number ∙ sym (length-pairs_of rows cs many) in
    b ∙ ap (λ z. cond (is_waiting c) (with_entry (record { weight = r.weight; number = n }) z) z) a ∙ ap (λ m. cond (is_waiting c) (with_entry (record { weight = r.weight; number = m }) (queue_from 0 ps)) (queue_from 0 ps)) k
    ∙ by_state ps (pair_of r c) ∙ ap (queue_from 0) (sym (pairs_of-push rows cs r c many))
  where
    by_state : (ps : List Pair) (p : Pair) → cond (is_waiting p.condition) (with_entry (place_of p (length ps)) (queue_from 0 ps)) (queue_from 0 ps) ≡ queue_from 0 (ps ++ p ∷ [])
    by_state ps p = elim (cases_Bool (is_waiting p.condition)) as (λ _. cond (is_waiting p.condition) (with_entry (place_of p (length ps)) (queue_from 0 ps)) (queue_from 0 ps) ≡ queue_from 0 (ps ++ p ∷ [])) [
      | inl b ↦ rw b (sym (queue-push ps p b))
      | inr b ↦ rw b (sym (queue-push_quiet 0 ps p b))
    ]

-- the next number is in no entry of the queue
pub number_new : (rows : List PairRow) (cs : List Condition) (n : ℕ) (v : List Place) → length cs ≡ length rows → n ≡ length rows → v ≡ queue_from 0 (pairs_of rows cs) → IsNew n v
number_new rows cs n v many number a =
    subst (λ k. IsNew k v) (length-pairs_of rows cs many ∙ sym number) (subst (IsNew (length (pairs_of rows cs))) (sym a) (new-past (pairs_of rows cs)))

-- nor is that of a pair that doesn't wait
pub out_new : (i : Inside) (n : ℕ) (c : Condition) → is_waiting c ≡ false → ArePairs i → IsPairIn i n c → IsNew n i.queue.waiting
out_new i n c q a p = subst (IsNew n) (sym a.queue) (new-quiet n (pairs_of i.rows.items i.states.states) p.pair p.at (ap is_waiting p.condition ∙ q))

-- THE HEAD AS THE CODE READS IT

pub head_inside : (i : Inside) (v : PairsView) (n : ℕ) → pairs_view i ≡ v → option_map (λ (e : Place). e.number) (head_in v) ≡ Some n → n < length i.rows.items
head_inside i v n e h =
    let p = head_pair v n (head_in v) refl h in
    pair_below i.rows.items i.states.states n p.pair (subst (λ (w : PairsView). slice_get w.pairs n ≡ Some p.pair) (sym e) p.at)

pub head_is : (i : Inside) (v : PairsView) (n : ℕ) (row : PairRow) → pairs_view i ≡ v → option_map (λ (e : Place). e.number) (head_in v) ≡ Some n → row ≡ get_or i.rows.items n row → IsHead v n row.origin
head_is i v n row e h r =
    let p = head_pair v n (head_in v) refl h in
    let at : slice_get (pairs_of i.rows.items i.states.states) n ≡ Some p.pair = subst (λ (w : PairsView). slice_get w.pairs n ≡ Some p.pair) (sym e) p.at in
    record {
      place = p.place;
      pair = p.pair;
      is = p.is;
      number_is = p.number_is;
      at = p.at;
      waits = p.waits;
      origin_is = sym (ap (λ (x : PairRow). x.origin) r ∙ (row_at i.rows.items i.states.states n p.pair row at).1);
    }

pub none_at : (o : Option Place) → option_map (λ (e : Place). e.number) o ≡ None → o ≡ None
none_at None e = refl
none_at (Some p) e = absurd (cc)
