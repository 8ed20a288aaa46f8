-- The segments of a front, one by one.
use Rattle.std.proofs.Common.{◌≡◌, ℕ, zero, suc, ◌+◌, ◌*◌, ◌^◌, ◌<◌, ◌≤◌, ◌≢◌, Bool, true, false, List, [], ◌∷◌, ◌++◌, length, take, drop, get_or, slice_get, Some, refl, sym, ap, ◌∙◌, subst, arith, add-one, drop-cons, length-append, take-append-drop, append_assoc, append-nil}
use Rattle.std.proofs.lemmas.List.{take_more, map-append}
use Rattle.std.proofs.lemmas.Option.{slice_get-get_or}
use Rattle.std.proofs.lemmas.Grind.{flat_map-append}
use Rattle.std.proofs.Math.Nat.{pow-suc}
use Rattle.std.proofs.Math.ListN.{drop_of_length-le}
use Rattle.std.specs.declared.sync.Arc.{Arc}
use Rattle.uc_fact.specs.Live.{Live, rules_of}
use Rattle.uc_shelf.specs.declared.entry.Entry.{Entry}
use Rattle.uc_shelf.specs.Entries.{born, is_dead, living}
use Rattle.uc_shelf.specs.Segments.{Stretch, AreBased, Falls, IsRunOf, IsIn, entries_of, homes_in, sizes_of, values_of}
use Rattle.uc_shelf.specs.Viewing.{still_living}
use Rattle.uc_shelf.proofs.Viewed.{rules_split}
use Rattle.uc_shelf.proofs.Runs.{born_append, born_length, dead_append, living_append, living_own}
use Rattle.uc_shelf.proofs.Places.{here_first, here_rest, here_both, here_one, nth_here, nth_past}
use Rattle.uc_shelf.specs.Fronts.{AreAt}
use Rattle.boxcar.specs.Table.{Shelves, id_at}
use Rattle.std.specs.Prelude.{◌||◌}

-- falling powers of two

falls_pop : (k j : ℕ) (xs : List ℕ) (x : ℕ) → Falls k j (xs ++ x ∷ []) → Falls k (j + 1) xs
falls_pop k j [] x f = let lt : f.0 < k = f.1 in let le : j ≤ f.0 = f.3 in omega (arith, lt, le)
falls_pop k j (y ∷ ys) x f = (f.0, f.1, f.2, falls_pop f.0 j ys x f.3)

falls_push : (k j : ℕ) (xs : List ℕ) → Falls k (j + 1) xs → Falls k 0 (xs ++ 2 ^ j ∷ [])
falls_push k j [] f = (j, (let le : j + 1 ≤ k = f in omega (arith, le)), refl, (omega arith))
falls_push k j (y ∷ ys) f = (f.0, f.1, f.2, falls_push f.0 j ys f.3)

falls_stop : (k j : ℕ) (xs : List ℕ) (x : ℕ) → Falls k j (xs ++ x ∷ []) → x ≢ 2 ^ j → Falls k (j + 1) (xs ++ x ∷ [])
falls_stop k j [] x f ne =
    let i = f.0 in
    let le : j ≤ i = f.3 in
    let is : x ≡ 2 ^ i = f.2 in
    let differ : i ≢ j = λ e. ne (is ∙ ap (λ n. 2 ^ n) e) in
    (i, f.1, is, (omega (arith, le, differ)))
falls_stop k j (y ∷ ys) x f ne = (f.0, f.1, f.2, falls_stop f.0 j ys x f.3 ne)

pub twice : (j n : ℕ) → n ≡ 2 ^ j → n * 2 ≡ 2 ^ (j + 1)
twice j n e = ap (λ k. k * 2) e ∙ sym (pow-suc 2 j) ∙ ap (λ k. 2 ^ k) (sym (add-one j))

or_none : (a b : Bool) → a ≡ false → b ≡ false → (a || b) ≡ false
or_none true b h i = cc
or_none false b h i = i

pub whole : {X : Type 0} (k : ℕ) (xs : List X) → length xs ≤ k → take k xs ≡ xs
whole zero [] h = refl
whole (suc k) [] h = refl
whole zero (x ∷ xs) h = absurd (omega (arith, h))
whole (suc k) (x ∷ xs) h = ap (λ z. x ∷ z) (whole k xs (omega (arith, h)))

module _ {Z : Type 0} where
  sizes_more : (ps : List (Arc Stretch Z)) (m : ℕ) (p : Arc Stretch Z) → m < length ps → p ≡ get_or ps m p → sizes_of (take (m + 1) ps) ≡ sizes_of (take m ps) ++ length p.value.entries ∷ []
  sizes_more ps m p lt is =
      let size : Arc Stretch Z → ℕ = λ p. length p.value.entries in
      ap sizes_of (take_more ps m p lt) ∙ map-append size (take m ps) (get_or ps m p ∷ []) ∙ ap (λ q. sizes_of (take m ps) ++ size q ∷ []) (sym is)

  pub entries_grow : (ps : List (Arc Stretch Z)) (m : ℕ) (p : Arc Stretch Z) → m < length ps → p ≡ get_or ps m p
      → length (entries_of (drop m ps)) ≡ length p.value.entries + length (entries_of (drop (m + 1) ps))
  entries_grow ps m p lt is =
      let e : drop m ps ≡ p ∷ drop (m + 1) ps = rw add-one (drop-cons ps m p lt) ∙ ap (λ q. q ∷ drop (m + 1) ps) (sym is) in
      ap (λ (qs : List (Arc Stretch Z)). length (entries_of qs)) e ∙ length-append p.value.entries (entries_of (drop (m + 1) ps))

  pub entries_drop : (ps : List (Arc Stretch Z)) (m : ℕ) → length (entries_of (drop m ps)) ≤ length (entries_of ps)
  entries_drop [] zero = omega arith
  entries_drop [] (suc m) = omega arith
  entries_drop (p ∷ ps) zero = omega arith
  entries_drop (p ∷ ps) (suc m) = omega (arith, entries_drop ps m, length-append p.value.entries (entries_of ps))

  pub pop : (ps : List (Arc Stretch Z)) (m j : ℕ) (p : Arc Stretch Z) → m < length ps → p ≡ get_or ps m p → Falls 32 j (sizes_of (take (m + 1) ps)) → Falls 32 (j + 1) (sizes_of (take m ps))
  pop ps m j p lt is f = falls_pop 32 j (sizes_of (take m ps)) (length p.value.entries) (subst (Falls 32 j) (sizes_more ps m p lt is) f)

  pub stop : (ps : List (Arc Stretch Z)) (m j : ℕ) (p : Arc Stretch Z) → m < length ps → p ≡ get_or ps m p → Falls 32 j (sizes_of (take (m + 1) ps))
      → length p.value.entries ≢ 2 ^ j → Falls 32 0 (sizes_of (take (m + 1) ps) ++ 2 ^ j ∷ [])
  stop ps m j p lt is f ne =
      let e = sizes_more ps m p lt is in
      falls_push 32 j (sizes_of (take (m + 1) ps))
      (subst (Falls 32 (j + 1)) (sym e) (falls_stop 32 j (sizes_of (take m ps)) (length p.value.entries) (subst (Falls 32 j) e f) ne))

  -- segments in two parts

  pub entries_parts : (xs ys : List (Arc Stretch Z)) → entries_of (xs ++ ys) ≡ entries_of xs ++ entries_of ys
  entries_parts xs ys = flat_map-append (λ (s : Arc Stretch Z). s.value.entries) xs ys

  pub homes_parts : (xs ys : List (Arc Stretch Z)) → homes_in (xs ++ ys) ≡ homes_in xs ++ homes_in ys
  homes_parts xs ys = flat_map-append (λ (s : Arc Stretch Z). s.value.homes) xs ys

  pub entries_cut : (k : ℕ) (ps : List (Arc Stretch Z)) → entries_of ps ≡ entries_of (take k ps) ++ entries_of (drop k ps)
  entries_cut k ps = ap entries_of (sym (take-append-drop k ps)) ∙ entries_parts (take k ps) (drop k ps)

  pub homes_cut : (k : ℕ) (ps : List (Arc Stretch Z)) → homes_in ps ≡ homes_in (take k ps) ++ homes_in (drop k ps)
  homes_cut k ps = ap homes_in (sym (take-append-drop k ps)) ∙ homes_parts (take k ps) (drop k ps)

  pub behind : (ps : List (Arc Stretch Z)) (k : ℕ) (p : Arc Stretch Z) → k < length ps → p ≡ get_or ps k p → entries_of (drop k ps) ≡ p.value.entries ++ entries_of (drop (k + 1) ps)
  behind ps k p lt is =
      let e : drop k ps ≡ p ∷ drop (k + 1) ps = rw add-one (drop-cons ps k p lt) ∙ ap (λ q. q ∷ drop (k + 1) ps) (sym is) in
      ap (λ (qs : List (Arc Stretch Z)). entries_of qs) e

  pub ahead : (ps : List (Arc Stretch Z)) (k : ℕ) (p : Arc Stretch Z) → k < length ps → p ≡ get_or ps k p → entries_of (take (k + 1) ps) ≡ entries_of (take k ps) ++ p.value.entries
  ahead ps k p lt is = ap entries_of (take_more ps k p lt) ∙ entries_parts (take k ps) (get_or ps k p ∷ []) ∙ ap (λ (q : Arc Stretch Z). entries_of (take k ps) ++ entries_of (q ∷ [])) (sym is) ∙ ap (λ z. entries_of (take k ps) ++ z) (append-nil p.value.entries)

  -- how many facts are born before a segment
  base_at : (n : ℕ) (ps : List (Arc Stretch Z)) (k : ℕ) (p : Arc Stretch Z) → AreBased n ps → slice_get ps k ≡ Some p → p.value.base ≡ n + length (born (entries_of (take k ps)))
  base_at n [] k p b e = absurd cc
  base_at n (x ∷ xs) zero p b e = (let same : x ≡ p = cc in ap (λ (q : Arc Stretch Z). q.value.base) (sym same) ∙ b.0 ∙ (let r : n ≡ n + 0 = omega arith in r))
  base_at n (x ∷ xs) (suc k) p b e = (let r = base_at (n + length (born x.value.entries)) xs k p b.1 e in omega (arith, r, born_length x.value.entries (entries_of (take k xs))))

  pub base_here : (ps : List (Arc Stretch Z)) (k : ℕ) (p : Arc Stretch Z) → AreBased 0 ps → k < length ps → p ≡ get_or ps k p → p.value.base ≡ length (born (entries_of (take k ps)))
  base_here ps k p b lt is = base_at 0 ps k p b (slice_get-get_or ps k p lt ∙ ap Some (sym is)) ∙ (let n : ℕ = length (born (entries_of (take k ps))) in let r : 0 + n ≡ n = omega arith in r)

  -- each segment is a run of all
  pub run_here : (ps : List (Arc Stretch Z)) (k : ℕ) (p : Arc Stretch Z) → AreBased 0 ps → k < length ps → p ≡ get_or ps k p → IsRunOf (entries_of ps) p.value
  run_here ps k p b lt is = record {
    before = entries_of (take k ps);
    behind = entries_of (drop (k + 1) ps);
    all_is = entries_cut k ps ∙ ap (λ z. entries_of (take k ps) ++ z) (behind ps k p lt is);
    base_is = base_here ps k p b lt is;
  }

  -- the rules of a segment and of those behind it
  pub rules_here : (ps : List (Arc Stretch Z)) (k : ℕ) (p : Arc Stretch Z) (fs : List Live) → AreBased 0 ps → k < length ps → p ≡ get_or ps k p → fs ≡ living p.value.entries p.value.base p.value.entries
      → rules_of (living (entries_of ps) (length (born (entries_of (take k ps)))) (entries_of (drop k ps)))
      ≡ rules_of (still_living (entries_of ps) fs) ++ rules_of (living (entries_of ps) (length (born (entries_of (take (k + 1) ps)))) (entries_of (drop (k + 1) ps)))
  rules_here ps k p fs b lt is of =
      let es = entries_of ps in
      let n = length (born (entries_of (take k ps))) in
      let next : n + length (born p.value.entries) ≡ length (born (entries_of (take (k + 1) ps))) = sym (ap (λ z. length (born z)) (ahead ps k p lt is) ∙ born_length (entries_of (take k ps)) p.value.entries) in
      ap (λ z. rules_of (living es n z)) (behind ps k p lt is)
      ∙ ap rules_of (living_append es n p.value.entries (entries_of (drop (k + 1) ps)))
      ∙ rules_split (living es n p.value.entries) (living es (n + length (born p.value.entries)) (entries_of (drop (k + 1) ps)))
      ∙ ap (λ m. rules_of (living es n p.value.entries) ++ rules_of (living es m (entries_of (drop (k + 1) ps)))) next
      ∙ ap (λ z. rules_of z ++ rules_of (living es (length (born (entries_of (take (k + 1) ps)))) (entries_of (drop (k + 1) ps))))
      (ap (λ m. living es m p.value.entries) (sym (base_here ps k p b lt is)) ∙ living_own es p.value (run_here ps k p b lt is) ∙ ap (still_living es) (sym of))

  pub rules_end : (ps : List (Arc Stretch Z)) (k n : ℕ) (es : List Entry) → length ps ≤ k → rules_of (living es n (entries_of (drop k ps))) ≡ []
  rules_end ps k n es h = ap (λ (qs : List (Arc Stretch Z)). rules_of (living es n (entries_of qs))) (drop_of_length-le ps h)

  -- a segment's part in what is asked for

  pub homes_here : (shelf : Shelves) (ps : List (Arc Stretch Z)) (k : ℕ) (p : Arc Stretch Z) → k < length ps → p ≡ get_or ps k p → AreAt shelf (homes_in ps) → AreAt shelf p.value.homes
  homes_here shelf ps k p lt is h =
      let e : drop k ps ≡ p ∷ drop (k + 1) ps = rw add-one (drop-cons ps k p lt) ∙ ap (λ q. q ∷ drop (k + 1) ps) (sym is) in
      let cut : homes_in ps ≡ homes_in (take k ps) ++ (p.value.homes ++ homes_in (drop (k + 1) ps)) = homes_cut k ps ∙ ap (λ (qs : List (Arc Stretch Z)). homes_in (take k ps) ++ homes_in qs) e in
      here_first shelf p.value.homes (homes_in (drop (k + 1) ps)) (here_rest shelf (homes_in (take k ps)) (p.value.homes ++ homes_in (drop (k + 1) ps)) (subst (AreAt shelf) cut h))

  pub born_ahead : (ps : List (Arc Stretch Z)) (k : ℕ) (p : Arc Stretch Z) → AreBased 0 ps → k < length ps → p ≡ get_or ps k p → length (born (entries_of (take (k + 1) ps))) ≡ p.value.base + length (born p.value.entries)
  born_ahead ps k p b lt is = ap (λ z. length (born z)) (ahead ps k p lt is) ∙ born_length (entries_of (take k ps)) p.value.entries ∙ ap (λ m. m + length (born p.value.entries)) (sym (base_here ps k p b lt is))

  pub home_is : (all : List Entry) (homes : List (ℕ × ℕ)) (ps : List (Arc Stretch Z)) (k : ℕ) (p : Arc Stretch Z) (s : Stretch) (n : ℕ) → all ≡ entries_of ps → homes ≡ homes_in ps → s ≡ p.value → AreBased 0 ps → k < length ps → p ≡ get_or ps k p
      → length (born (entries_of (take k ps))) ≤ n → n < p.value.base + length (born p.value.entries) → IsIn all homes n s
  home_is all homes ps k p s n a h e b lt is low high = subst (IsIn all homes n) (sym e) record {
    run = subst (λ z. IsRunOf z p.value) (sym a) (run_here ps k p b lt is);
    from_base = omega (arith, low, base_here ps k p b lt is);
    below = high;
    at_home = λ shelf at. homes_here shelf ps k p lt is (subst (AreAt shelf) h at);
  }

  pub alive_ahead : (ps : List (Arc Stretch Z)) (k : ℕ) (p : Arc Stretch Z) (n : ℕ) → k < length ps → p ≡ get_or ps k p → is_dead (entries_of (take k ps)) n ≡ false → is_dead p.value.entries n ≡ false → is_dead (entries_of (take (k + 1) ps)) n ≡ false
  alive_ahead ps k p n lt is a b = ap (λ z. is_dead z n) (ahead ps k p lt is) ∙ dead_append (entries_of (take k ps)) p.value.entries n ∙ or_none (is_dead (entries_of (take k ps)) n) (is_dead p.value.entries n) a b

  pub nth_segment : (ps : List (Arc Stretch Z)) (k : ℕ) (p : Arc Stretch Z) (n left : ℕ) → k < length ps → p ≡ get_or ps k p → n ≡ length (entries_of (take k ps)) + left → left < length p.value.entries → slice_get (entries_of ps) n ≡ slice_get p.value.entries left
  nth_segment ps k p n left lt is at less =
      ap (λ z. slice_get z n) (entries_cut k ps ∙ ap (λ z. entries_of (take k ps) ++ z) (behind ps k p lt is))
      ∙ nth_past (entries_of (take k ps)) (p.value.entries ++ entries_of (drop (k + 1) ps)) n left at
      ∙ nth_here p.value.entries (entries_of (drop (k + 1) ps)) left less

  pub length_ahead : (ps : List (Arc Stretch Z)) (k : ℕ) (p : Arc Stretch Z) → k < length ps → p ≡ get_or ps k p → length (entries_of (take (k + 1) ps)) ≡ length (entries_of (take k ps)) + length p.value.entries
  length_ahead ps k p lt is = ap length (ahead ps k p lt is) ∙ length-append (entries_of (take k ps)) p.value.entries

  -- segments with the same values

  pub same_entries : (xs ys : List (Arc Stretch Z)) → values_of xs ≡ values_of ys → entries_of xs ≡ entries_of ys
  same_entries [] [] e = refl
  same_entries [] (y ∷ ys) e = absurd cc
  same_entries (x ∷ xs) [] e = absurd cc
  same_entries (x ∷ xs) (y ∷ ys) e = (let a : x.value ≡ y.value = cc in let b : values_of xs ≡ values_of ys = cc in ap (λ (s : Stretch). s.entries ++ entries_of xs) a ∙ ap (λ z. y.value.entries ++ z) (same_entries xs ys b))

  pub same_homes : (xs ys : List (Arc Stretch Z)) → values_of xs ≡ values_of ys → homes_in xs ≡ homes_in ys
  same_homes [] [] e = refl
  same_homes [] (y ∷ ys) e = absurd cc
  same_homes (x ∷ xs) [] e = absurd cc
  same_homes (x ∷ xs) (y ∷ ys) e = (let a : x.value ≡ y.value = cc in let b : values_of xs ≡ values_of ys = cc in ap (λ (s : Stretch). s.homes ++ homes_in xs) a ∙ ap (λ z. y.value.homes ++ z) (same_homes xs ys b))

  pub same_sizes : (xs ys : List (Arc Stretch Z)) → values_of xs ≡ values_of ys → sizes_of xs ≡ sizes_of ys
  same_sizes [] [] e = refl
  same_sizes [] (y ∷ ys) e = absurd cc
  same_sizes (x ∷ xs) [] e = absurd cc
  same_sizes (x ∷ xs) (y ∷ ys) e = (let a : x.value ≡ y.value = cc in let b : values_of xs ≡ values_of ys = cc in ap (λ (s : Stretch). length s.entries ∷ sizes_of xs) a ∙ ap (λ z. length y.value.entries ∷ z) (same_sizes xs ys b))

  pub same_based : (n : ℕ) (xs ys : List (Arc Stretch Z)) → values_of xs ≡ values_of ys → AreBased n xs → AreBased n ys
  same_based n [] [] e h = tt
  same_based n [] (y ∷ ys) e h = absurd cc
  same_based n (x ∷ xs) [] e h = absurd cc
  same_based n (x ∷ xs) (y ∷ ys) e h = (let a : x.value ≡ y.value = cc in let b : values_of xs ≡ values_of ys = cc in (sym (ap (λ (s : Stretch). s.base) a) ∙ h.0, subst (λ m. AreBased m ys) (ap (λ (s : Stretch). n + length (born s.entries)) a) (same_based (n + length (born x.value.entries)) xs ys b h.1)))

  -- one segment in place of the last ones

  pub entries_put : (ps : List (Arc Stretch Z)) (m : ℕ) (p : Arc Stretch Z) (e : Entry) → p.value.entries ≡ entries_of (drop m ps) ++ e ∷ [] → entries_of (take m ps ++ p ∷ []) ≡ entries_of ps ++ e ∷ []
  entries_put ps m p e own =
      entries_parts (take m ps) (p ∷ []) ∙ ap (λ q. entries_of (take m ps) ++ q) (append-nil p.value.entries ∙ own)
      ∙ sym (append_assoc (entries_of (take m ps)) (entries_of (drop m ps)) (e ∷ [])) ∙ ap (λ q. q ++ e ∷ []) (sym (entries_cut m ps))

  pub homes_put : (shelf : Shelves) (ps : List (Arc Stretch Z)) (m : ℕ) (p : Arc Stretch Z) (h : ℕ × ℕ) → AreAt shelf (homes_in ps) → h.1 ≡ id_at shelf.buckets h.0 → p.value.homes ≡ homes_in (drop m ps) ++ h ∷ [] → AreAt shelf (homes_in (take m ps ++ p ∷ []))
  homes_put shelf ps m p h at one own =
      let e : homes_in (take m ps ++ p ∷ []) ≡ homes_in ps ++ h ∷ [] = homes_parts (take m ps) (p ∷ []) ∙ ap (λ q. homes_in (take m ps) ++ q) (append-nil p.value.homes ∙ own)
      ∙ sym (append_assoc (homes_in (take m ps)) (homes_in (drop m ps)) (h ∷ [])) ∙ ap (λ q. q ++ h ∷ []) (sym (homes_cut m ps)) in
      subst (AreAt shelf) (sym e) (here_both shelf (homes_in ps) (h ∷ []) at (here_one shelf h one))

  based_front : (n m : ℕ) (ps : List (Arc Stretch Z)) (p : Arc Stretch Z) → AreBased n ps → p.value.base ≡ n + length (born (entries_of (take m ps))) → AreBased n (take m ps ++ p ∷ [])
  based_front n zero ps p b e = (omega (arith, e), tt)
  based_front n (suc m) [] p b e = (omega (arith, e), tt)
  based_front n (suc m) (x ∷ xs) p b e = (b.0, based_front (n + length (born x.value.entries)) m xs p b.1 (omega (arith, e, born_length x.value.entries (entries_of (take m xs)))))

  pub based_put : (m : ℕ) (ps : List (Arc Stretch Z)) (p : Arc Stretch Z) → AreBased 0 ps → p.value.base ≡ length (born (entries_of (take m ps))) → AreBased 0 (take m ps ++ p ∷ [])
  based_put m ps p b e = based_front 0 m ps p b (omega (arith, e))

  pub falls_put : (m : ℕ) (ps : List (Arc Stretch Z)) (p : Arc Stretch Z) (e : Entry) → p.value.entries ≡ entries_of (drop m ps) ++ e ∷ [] → Falls 32 0 (sizes_of (take m ps) ++ (length (entries_of (drop m ps)) + 1) ∷ []) → Falls 32 0 (sizes_of (take m ps ++ p ∷ []))
  falls_put m ps p e own f =
      let size : Arc Stretch Z → ℕ = λ q. length q.value.entries in
      let long : length p.value.entries ≡ length (entries_of (drop m ps)) + 1 = ap length own ∙ length-append (entries_of (drop m ps)) (e ∷ []) in
      subst (Falls 32 0) (sym (map-append size (take m ps) (p ∷ []) ∙ ap (λ n. sizes_of (take m ps) ++ n ∷ []) long)) f

-- the fact of a number that is born in a run
pub born_in_run : (all : List Entry) (s : Stretch) (n m : ℕ) → IsRunOf all s → n ≡ s.base + m → m < length (born s.entries) → slice_get (born all) n ≡ slice_get (born s.entries) m
born_in_run all s n m r e less =
    ap (λ z. slice_get (born z) n) r.all_is ∙ ap (λ z. slice_get z n) (born_append r.before (s.entries ++ r.behind))
    ∙ nth_past (born r.before) (born (s.entries ++ r.behind)) n m (omega (arith, e, r.base_is))
    ∙ ap (λ z. slice_get z m) (born_append s.entries r.behind) ∙ nth_here (born s.entries) (born r.behind) m less
