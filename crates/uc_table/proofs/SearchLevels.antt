-- The state of a search, as a cell gets a value and loses it again.
use Rattle.std.proofs.Common.{◌≡◌, ℕ, zero, suc, ◌+◌, ◌-◌, ◌≤◌, ◌<◌, List, [], ◌∷◌, ◌++◌, length, take, drop, get_or, refl, ap, sym, ◌∙◌, arith, subst, length-append, add-one, take-append-drop}
use Rattle.std.specs.Prelude.{slice_get, Some}
use Rattle.std.proofs.lemmas.List.{take-append-le, get_or_append_left}
use Rattle.std.proofs.lemmas.Grind.{common_steps}
use Rattle.uc_table.specs.declared.search_waiting.Entry.{Entry}
use Rattle.uc_table.specs.declared.search_size.Rules.{Rules}
use Rattle.uc_table.specs.declared.search_size.State.{State}
use Rattle.uc_table.specs.Tables.{AreValues}
use Rattle.uc_table.specs.SearchWaiting.{IsWell}
use Rattle.uc_table.specs.SearchInstances.{AreOf, AreSettled, AreSettledBelow, Extends}
use Rattle.uc_table.specs.SearchState.{AreLevels, IsSound, IsOpenState, IsSet}
use Rattle.uc_table.proofs.SearchOrder.{below_append}
use Rattle.uc_table.proofs.Lists.{taken as values_taken}
use Rattle.uc_table.proofs.SearchLonger.{settled_next}

pub levels_longer : (rules : Rules) (p q ms ns : List ℕ) (k : ℕ) (es : List Entry) → k ≤ length p → k ≤ length ms → AreLevels rules p ms k es → AreLevels rules (p ++ q) (ms ++ ns) k es
levels_longer rules p q ms ns zero es l m h = h
levels_longer rules p q ms ns (suc k) es l m h =
    let e : take (suc k) (p ++ q) ≡ take (suc k) p = take-append-le (suc k) p q l in
    let f : get_or (ms ++ ns) k 0 ≡ get_or ms k 0 = get_or_append_left ms ns 0 k (omega arith) in
    rw (e, f) (h.0, h.1, levels_longer rules p q ms ns k (take (get_or ms k 0) es) (omega arith) (omega arith) h.2)

pub levels_shorter : (rules : Rules) (p q ms ns : List ℕ) (k : ℕ) (es : List Entry) → k ≤ length p → k ≤ length ms → AreLevels rules (p ++ q) (ms ++ ns) k es → AreLevels rules p ms k es
levels_shorter rules p q ms ns zero es l m h = h
levels_shorter rules p q ms ns (suc k) es l m h =
    let e : take (suc k) (p ++ q) ≡ take (suc k) p = take-append-le (suc k) p q l in
    let f : get_or (ms ++ ns) k 0 ≡ get_or ms k 0 = get_or_append_left ms ns 0 k (omega arith) in
    let a : AreSettled rules.size (take (suc k) p) rules.forms.items es = subst (λ z. AreSettled rules.size z rules.forms.items es) e h.0 in
    let b : get_or ms k 0 ≤ length es = subst (λ z. z ≤ length es) f h.1 in
    let c : AreLevels rules (p ++ q) (ms ++ ns) k (take (get_or ms k 0) es) = subst (λ z. AreLevels rules (p ++ q) (ms ++ ns) k (take z es)) f h.2 in
    (a, b, levels_shorter rules p q ms ns k (take (get_or ms k 0) es) (omega arith) (omega arith) c)

take_whole : {A : Type 0} (xs : List A) (k : ℕ) → k ≡ length xs → take k xs ≡ xs
take_whole xs k e = grind (arith, common_steps)

none_left : (p : List ℕ) → 0 ≡ length p → p ≡ []
none_left [] e = refl
none_left (x ∷ p) e = absurd (omega arith)

pub top_settled : (rules : Rules) (p ms : List ℕ) (k : ℕ) (es : List Entry) → k ≡ length p → AreLevels rules p ms k es → AreSettled rules.size p rules.forms.items es
top_settled rules p ms zero es e h = subst (λ z. AreSettled rules.size z rules.forms.items es) (sym (none_left p e)) h
top_settled rules p ms (suc k) es e h = subst (λ z. AreSettled rules.size z rules.forms.items es) (take_whole p (suc k) e) h.0

extended : (old new : List Entry) → Extends old new → take (length old) new ≡ old
extended old new x = ap (take (length old)) x.new_is ∙ both old x.more
  where
    both : (xs ys : List Entry) → take (length xs) (xs ++ ys) ≡ xs
    both xs ys = grind (arith, common_steps)

longer : (old new : List Entry) → Extends old new → length old ≤ length new
longer old new x = let n : length new ≡ length old + length x.more = ap length x.new_is ∙ length-append old x.more in omega arith

module _ (rules : Rules) (s t : State) (v : ℕ) (o : IsOpenState rules s) (room : length s.prefix.items < rules.cells) (small : v < rules.size)
    (prefix_is : t.prefix.items ≡ s.prefix.items ++ v ∷ []) (marks_is : t.marks.items ≡ s.marks.items ++ length s.waiting.entries.items ∷ [])
    (well : IsWell t.waiting) (of : AreOf rules.forms.items t.waiting.entries.items) (x : Extends s.waiting.entries.items t.waiting.entries.items) where
  one_more : length t.prefix.items ≡ suc (length s.prefix.items)
  one_more = ap length prefix_is ∙ length-append s.prefix.items (v ∷ []) ∙ add-one (length s.prefix.items)

  mark_is : get_or t.marks.items (length s.prefix.items) 0 ≡ length s.waiting.entries.items
  mark_is =
      let n : length s.marks.items ≡ length s.prefix.items = o.sound.as_many in
      ap (λ l. get_or l (length s.prefix.items) 0) marks_is ∙ ap (λ i. get_or (s.marks.items ++ length s.waiting.entries.items ∷ []) i 0) (sym n) ∙ seam s.marks.items (length s.waiting.entries.items)
    where
      seam : (xs : List ℕ) (y : ℕ) → get_or (xs ++ y ∷ []) (length xs) 0 ≡ y
      seam xs y = grind (arith, common_steps)

  set_sound : IsSound rules t
  set_sound = record {
    well = well;
    of = of;
    values = subst (AreValues rules.size) (sym prefix_is) (below_append rules.size s.prefix.items (v ∷ []) o.sound.values (small, tt));
    as_many = (let n : length s.marks.items ≡ length s.prefix.items = o.sound.as_many in let m : length t.marks.items ≡ length s.marks.items + 1 = ap length marks_is ∙ length-append s.marks.items (length s.waiting.entries.items ∷ []) in let k : length t.prefix.items ≡ suc (length s.prefix.items) = one_more in omega arith);
    short = (let k : length t.prefix.items ≡ suc (length s.prefix.items) = one_more in omega arith);
  }

  before : AreLevels rules t.prefix.items t.marks.items (length s.prefix.items) s.waiting.entries.items
  before =
      let n : length s.marks.items ≡ length s.prefix.items = o.sound.as_many in
      let h : AreLevels rules (s.prefix.items ++ v ∷ []) (s.marks.items ++ length s.waiting.entries.items ∷ []) (length s.prefix.items) s.waiting.entries.items = levels_longer rules s.prefix.items (v ∷ []) s.marks.items (length s.waiting.entries.items ∷ []) (length s.prefix.items) s.waiting.entries.items (omega arith) (omega arith) o.levels in
      subst (λ z. AreLevels rules z t.marks.items (length s.prefix.items) s.waiting.entries.items) (sym prefix_is)
      (subst (λ z. AreLevels rules (s.prefix.items ++ v ∷ []) z (length s.prefix.items) s.waiting.entries.items) (sym marks_is) h)

  taken : take (get_or t.marks.items (length s.prefix.items) 0) t.waiting.entries.items ≡ s.waiting.entries.items
  taken = ap (λ z. take z t.waiting.entries.items) mark_is ∙ extended s.waiting.entries.items t.waiting.entries.items x

  last_is : length t.prefix.items - 1 ≡ length s.prefix.items
  last_is = let k : length t.prefix.items ≡ suc (length s.prefix.items) = one_more in omega arith

  pub is_set : IsSet rules t
  is_set = record {
    sound = set_sound;
    some = (let k : length t.prefix.items ≡ suc (length s.prefix.items) = one_more in omega arith);
    within = subst (λ i. get_or t.marks.items i 0 ≤ length t.waiting.entries.items) (sym last_is) (subst (λ z. z ≤ length t.waiting.entries.items) (sym mark_is) (longer s.waiting.entries.items t.waiting.entries.items x));
    levels = subst (λ i. AreLevels rules t.prefix.items t.marks.items i (take (get_or t.marks.items i 0) t.waiting.entries.items)) (sym last_is)
        (subst (λ z. AreLevels rules t.prefix.items t.marks.items (length s.prefix.items) z) (sym taken) before);
  }

  pub is_open : AreSettledBelow rules.size t.prefix.items rules.forms.items (length s.prefix.items) 0 s.waiting.entries.items t.waiting.entries.items → IsOpenState rules t
  is_open b = record {
    sound = set_sound;
    levels = subst (λ n. AreLevels rules t.prefix.items t.marks.items n t.waiting.entries.items) (sym one_more) (now, low, subst (λ z. AreLevels rules t.prefix.items t.marks.items (length s.prefix.items) z) (sym taken) before);
  }
    where
      whole : take (suc (length s.prefix.items)) t.prefix.items ≡ s.prefix.items ++ v ∷ []
      whole = take_whole t.prefix.items (suc (length s.prefix.items)) (sym one_more) ∙ prefix_is

      settled : AreSettled rules.size (s.prefix.items ++ v ∷ []) rules.forms.items t.waiting.entries.items
      settled = settled_next rules.size s.prefix.items v rules.forms.items s.waiting.entries.items t.waiting.entries.items x
          (subst (λ z. AreSettledBelow rules.size z rules.forms.items (length s.prefix.items) 0 s.waiting.entries.items t.waiting.entries.items) prefix_is b)
          (top_settled rules s.prefix.items s.marks.items (length s.prefix.items) s.waiting.entries.items refl o.levels)

      now : AreSettled rules.size (take (suc (length s.prefix.items)) t.prefix.items) rules.forms.items t.waiting.entries.items
      now = subst (λ z. AreSettled rules.size z rules.forms.items t.waiting.entries.items) (sym whole) settled

      low : get_or t.marks.items (length s.prefix.items) 0 ≤ length t.waiting.entries.items
      low = subst (λ z. z ≤ length t.waiting.entries.items) (sym mark_is) (longer s.waiting.entries.items t.waiting.entries.items x)

-- an open state whose prefix isn't empty is one with a last value
pub open_set : (rules : Rules) (s : State) → IsOpenState rules s → 0 < length s.prefix.items → IsSet rules s
open_set rules s o l = record { sound = o.sound; some = l; within = h.1; levels = h.2 }
  where
    last : length s.prefix.items ≡ suc (length s.prefix.items - 1)
    last = omega arith

    h : AreLevels rules s.prefix.items s.marks.items (suc (length s.prefix.items - 1)) s.waiting.entries.items
    h = subst (λ n. AreLevels rules s.prefix.items s.marks.items n s.waiting.entries.items) last o.levels

get_of_take : {A : Type 0} (xs : List A) (n i : ℕ) (x : A) → slice_get (take n xs) i ≡ Some x → slice_get xs i ≡ Some x
get_of_take xs zero i x e = cc
get_of_take [] (suc n) i x e = e
get_of_take (y ∷ xs) (suc n) zero x e = e
get_of_take (y ∷ xs) (suc n) (suc i) x e = get_of_take xs n i x e

-- the last value is taken back
pub back_open : (rules : Rules) (s t : State) (last mark : ℕ) → IsSet rules s → last ≡ length s.prefix.items - 1 → mark ≡ get_or s.marks.items last 0 → t.prefix.items ≡ take last s.prefix.items → t.marks.items ≡ take last s.marks.items → t.waiting.entries.items ≡ take mark s.waiting.entries.items → IsWell t.waiting → IsOpenState rules t
back_open rules s t last mark h l m p q w well = record {
  sound = record {
    well = well;
    of = λ i e g. h.sound.of i e (get_of_take s.waiting.entries.items mark i e (subst (λ z. slice_get z i ≡ Some e) w g));
    values = subst (AreValues rules.size) (sym p) (values_taken rules.size last s.prefix.items h.sound.values);
    as_many = (let n : length s.marks.items ≡ length s.prefix.items = h.sound.as_many in ap length q ∙ taken_length s.marks.items last (omega arith) ∙ sym (taken_length s.prefix.items last (omega arith)) ∙ sym (ap length p));
    short = (let n : length t.prefix.items ≡ last = ap length p ∙ taken_length s.prefix.items last (omega arith) in let k : length s.prefix.items ≤ rules.cells = h.sound.short in omega arith);
  };
  levels = subst (λ n. AreLevels rules t.prefix.items t.marks.items n t.waiting.entries.items) (sym (ap length p ∙ taken_length s.prefix.items last (omega arith)))
      (subst (λ z. AreLevels rules z t.marks.items last t.waiting.entries.items) (sym p)
      (subst (λ z. AreLevels rules (take last s.prefix.items) z last t.waiting.entries.items) (sym q)
      (subst (λ z. AreLevels rules (take last s.prefix.items) (take last s.marks.items) last z) (sym w) cut)));
}
  where
    taken_length : (xs : List ℕ) (n : ℕ) → n ≤ length xs → length (take n xs) ≡ n
    taken_length xs n k = grind (arith, common_steps)

    levels : AreLevels rules s.prefix.items s.marks.items last (take mark s.waiting.entries.items)
    levels = subst (λ z. AreLevels rules s.prefix.items s.marks.items last (take z s.waiting.entries.items)) (sym m)
        (subst (λ i. AreLevels rules s.prefix.items s.marks.items i (take (get_or s.marks.items i 0) s.waiting.entries.items)) (sym l) h.levels)

    cut : AreLevels rules (take last s.prefix.items) (take last s.marks.items) last (take mark s.waiting.entries.items)
    cut =
        let n : length s.marks.items ≡ length s.prefix.items = h.sound.as_many in
        let some : 0 < length s.prefix.items = h.some in
        levels_shorter rules (take last s.prefix.items) (drop last s.prefix.items) (take last s.marks.items) (drop last s.marks.items) last (take mark s.waiting.entries.items)
        (let a : length (take last s.prefix.items) ≡ last = taken_length s.prefix.items last (omega arith) in omega arith)
        (let a : length (take last s.marks.items) ≡ last = taken_length s.marks.items last (omega arith) in omega arith)
        (subst (λ z. AreLevels rules z (take last s.marks.items ++ drop last s.marks.items) last (take mark s.waiting.entries.items)) (sym (take-append-drop last s.prefix.items))
        (subst (λ z. AreLevels rules s.prefix.items z last (take mark s.waiting.entries.items)) (sym (take-append-drop last s.marks.items)) levels))
