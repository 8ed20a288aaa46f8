-- When a run has all variables of another.
use Rattle.std.proofs.Common.{◌≡◌, ℕ, zero, suc, ◌+◌, ◌-◌, ◌<◌, ◌≤◌, ◌==◌, List, [], ◌∷◌, ◌++◌, length, take, drop, get_or, slice_index, refl, sym, ap, ◌∙◌, subst, arith, sum, count_by, cond, ◌⊎◌, inl, inr, Bool, true, false}
use Rattle.std.proofs.lemmas.Grind.{take_at_read}
use Rattle.std.proofs.lemmas.Bool.{cases_eq}
use Rattle.std.proofs.lemmas.List.Sums.{sum_by-cons, sum_by_more}
use Rattle.std.proofs.lemmas.Bool.Decides.{nat_tests}
use Rattle.uc_term.specs.declared.node.Sym.{Sym}
use Rattle.uc_term.specs.declared.node.Node.{Node}
use Rattle.uc_term.specs.declared.node.Node.TheVariants.{Var, App}
use Rattle.uc_term.proofs.Terms.{take_of_length-le}
use Rattle.uc_order.specs.VarOrders.{Classes, class_of, IsHigher}
use Rattle.uc_kbo.specs.declared.run.Run.{Run}
use Rattle.uc_kbo.specs.Kbo.{Weighing, is_it, None, is_from}
use Rattle.uc_kbo.specs.Runs.{IsRun, HasAll, part, is_counted, in_slot, test_by, above_by, slot_by, read_by}
use Rattle.uc_kbo.proofs.Level.{Agree}
use Rattle.uc_kbo.specs.Table.{bool_cases, if_true, if_false}
use Rattle.uc_term.specs.Variables.{is_among}

-- both ways to read variables
agree_plain : Agree is_it None
agree_plain = record { apart = λ x a. a; passes = λ x y a k q. absurd a }

agree_under : (cs : Classes) → Agree (is_from cs) (IsHigher cs)
agree_under cs = record {
  apart = λ x a. absurd (omega arith);
  passes = λ x y a k q. grind (arith, nat_tests);
}

pub agree_by : (under : Bool) (cs : Classes) → Agree (test_by under cs) (above_by under cs)
agree_by false cs = agree_plain
agree_by true cs = agree_under cs

-- variable by variable: the one at a node is not more often in t than in s
abbrev pub IsCovered : List Node → List Node → Node → Type 0
IsCovered s t (Var x) = count_by (is_counted (is_it x)) t ≤ count_by (is_counted (is_it x)) s
IsCovered s t (App f n) = Unit {0}

abbrev pub AreCovered : List Node → List Node → List Node → Type 0
AreCovered s t [] = Unit {0}
AreCovered s t (n ∷ ns) = IsCovered s t n × AreCovered s t ns

covered_push : (s t ns : List Node) (n : Node) → AreCovered s t ns → IsCovered s t n → AreCovered s t (ns ++ n ∷ [])
covered_push s t [] n a h = (h, tt)
covered_push s t (m ∷ ns) n a h = (a.0, covered_push s t ns n a.1 h)

pub covered_more : (s t ns : List Node) (i : ℕ) (d : Node) → i < length ns → AreCovered s t (take i ns) → IsCovered s t (get_or ns i d) → AreCovered s t (take (i + 1) ns)
covered_more s t ns i d h a c = let P : List Node → Type 0 = AreCovered s t in subst P (sym (take_at_read ns i d h).1) (covered_push s t (take i ns) (get_or ns i d) a c)

pub covered_var : (s t : List Node) (n : Node) (x : ℕ) → n ≡ Var x → count_by (is_counted (is_it x)) t ≤ count_by (is_counted (is_it x)) s → IsCovered s t n
covered_var s t n x e h = let P : Node → Type 0 = IsCovered s t in subst P (sym e) h

pub covered_app : (s t : List Node) (n : Node) (f : Sym) (k : ℕ) → n ≡ App f k → IsCovered s t n
covered_app s t n f k e = let P : Node → Type 0 = IsCovered s t in subst P (sym e) tt

not_counted : (x y : ℕ) → (y ≡ x → ⊥) → cond {A = ℕ} (y == x) 1 0 ≡ 0
not_counted x y n = grind (arith, nat_tests)

at_var : (s t : List Node) (x y : ℕ) (ns : List Node) → (y ≡ x) ⊎ (y ≡ x → ⊥) → IsCovered s t (Var y) → (0 < count_by (is_counted (is_it x)) ns → count_by (is_counted (is_it x)) t ≤ count_by (is_counted (is_it x)) s) → 0 < count_by (is_counted (is_it x)) (Var y ∷ ns) → count_by (is_counted (is_it x)) t ≤ count_by (is_counted (is_it x)) s
at_var s t x y ns (inl e) c rest h = let P : ℕ → Type 0 = λ z. count_by (is_counted (is_it z)) t ≤ count_by (is_counted (is_it z)) s in subst P e c
at_var s t x y ns (inr n) c rest h =
    let p = sum_by-cons (λ m. cond (is_counted (is_it x) m) 1 0) (Var y) ns in
    rest (omega (arith, not_counted x y n))

found : (s t : List Node) (x : ℕ) (ns : List Node) → AreCovered s t ns → 0 < count_by (is_counted (is_it x)) ns → count_by (is_counted (is_it x)) t ≤ count_by (is_counted (is_it x)) s
found s t x [] a h = absurd (omega arith)
found s t x (Var y ∷ ns) a h = at_var s t x y ns (cases_eq y x) a.0 (λ k. found s t x ns a.1 k) h
found s t x (App f n ∷ ns) a h = found s t x ns a.1 (omega (arith, sum_by-cons (λ m. cond (is_counted (is_it x) m) 1 0) (App f n) ns))

one_covered : (s t : List Node) (x : ℕ) → AreCovered s t t → (0 < count_by (is_counted (is_it x)) t) ⊎ (count_by (is_counted (is_it x)) t ≤ 0) → count_by (is_counted (is_it x)) t ≤ count_by (is_counted (is_it x)) s
one_covered s t x a (inl h) = found s t x t a h
one_covered s t x a (inr h) = omega arith

pub all_covered : (s t : List Node) (i : ℕ) → length t ≤ i → AreCovered s t (take i t) → HasAll is_it s t
all_covered s t i h a x = one_covered s t x (let P : List Node → Type 0 = AreCovered s t in subst P (take_of_length-le t i h) a) (grind arith)

pub not_all : (test : ℕ → ℕ → Bool) (s t : List Node) (k : ℕ) → count_by (is_counted (test k)) s < count_by (is_counted (test k)) t → HasAll test s t → ⊥
not_all test s t k l h = absurd (omega (arith, h k))

-- read as it is
pub read_plain : (cs : Classes) (ns : List Node) → read_by false cs ns ≡ ns
read_plain cs [] = refl
read_plain cs (Var x ∷ ns) = ap (λ l. Var x ∷ l) (read_plain cs ns)
read_plain cs (App f n ∷ ns) = ap (λ l. App f n ∷ l) (read_plain cs ns)

-- counter by counter
module _ (w : Weighing) (cs : Classes) (s t : List Node) (a b : Run) where
  by_counters : (ns ms : List Node) (k : ℕ) → ((i : ℕ) → i < 32 → slice_index a.counts i ≡ count_by (is_counted (is_it i)) ns) → ((i : ℕ) → i < 32 → slice_index b.counts i ≡ count_by (is_counted (is_it i)) ms) → ((i : ℕ) → 32 ≤ i → count_by (is_counted (is_it i)) ms ≡ 0) → ((i : ℕ) → i < 32 → slice_index b.counts i ≤ slice_index a.counts i) → (k < 32) ⊎ (32 ≤ k) → count_by (is_counted (is_it k)) ms ≤ count_by (is_counted (is_it k)) ns
  by_counters ns ms k p q z h (inl l) = omega (arith, p k l, q k l, h k l)
  by_counters ns ms k p q z h (inr g) = omega (arith, z k g)

  pub each_covers : IsRun w (slot_by false cs) s a → IsRun w (slot_by false cs) t b → b.has_large ≡ false → ((i : ℕ) → i < 32 → slice_index b.counts i ≤ slice_index a.counts i) → HasAll (test_by false cs) (part s a.from a.to) (part t b.from b.to)
  each_covers p q l h k = by_counters (part s a.from a.to) (part t b.from b.to) k p.counts q.counts (q.large l) h (grind arith)

  pub covers_each : IsRun w (slot_by false cs) s a → IsRun w (slot_by false cs) t b → HasAll (test_by false cs) (part s a.from a.to) (part t b.from b.to) → (i : ℕ) → i < 32 → slice_index b.counts i ≤ slice_index a.counts i
  covers_each p q h i l = omega (arith, h i, p.counts i l, q.counts i l)

-- sums of the counters from one on
split_from : (cs : Classes) (k : ℕ) (n : Node) → cond {A = ℕ} (is_counted (is_from cs k) n) 1 0 ≡ cond (is_counted (in_slot (class_of cs) k) n) 1 0 + cond (is_counted (is_from cs (suc k)) n) 1 0
split_from cs k (Var x) = let c = class_of cs x in grind (arith, nat_tests)
split_from cs k (App f n) = refl

count_split : (cs : Classes) (k : ℕ) (ns : List Node) → count_by (is_counted (is_from cs k)) ns ≡ count_by (is_counted (in_slot (class_of cs) k)) ns + count_by (is_counted (is_from cs (suc k))) ns
count_split cs k [] = refl
count_split cs k (n ∷ ns) =
    omega (arith, count_split cs k ns, split_from cs k n, sum_by-cons (λ m. cond {A = ℕ} (is_counted (is_from cs k) m) 1 0) n ns, sum_by-cons (λ m. cond {A = ℕ} (is_counted (in_slot (class_of cs) k) m) 1 0) n ns, sum_by-cons (λ m. cond {A = ℕ} (is_counted (is_from cs (suc k)) m) 1 0) n ns)

-- where no class number is as great as k
beyond_one : (cs : Classes) (k : ℕ) (n : Node) → ((i : ℕ) → k ≤ i → cond {A = ℕ} (is_counted (in_slot (class_of cs) i) n) 1 0 ≡ 0) → cond {A = ℕ} (is_counted (is_from cs k) n) 1 0 ≡ 0
beyond_one cs k (Var x) h = let c = class_of cs x in let z = h (class_of cs x) in grind (arith, nat_tests)
beyond_one cs k (App f n) h = refl

beyond : (cs : Classes) (k : ℕ) (ns : List Node) → ((i : ℕ) → k ≤ i → count_by (is_counted (in_slot (class_of cs) i)) ns ≡ 0) → count_by (is_counted (is_from cs k)) ns ≡ 0
beyond cs k [] h = refl
beyond cs k (n ∷ ns) h =
    let here = λ (i : ℕ). sum_by-cons (λ m. cond {A = ℕ} (is_counted (in_slot (class_of cs) i) m) 1 0) n ns in
    omega (arith, sum_by-cons (λ m. cond {A = ℕ} (is_counted (is_from cs k) m) 1 0) n ns, beyond_one cs k n (λ i l. omega (arith, h i l, here i)), beyond cs k ns (λ i l. omega (arith, h i l, here i)))

pub sum_at : (xs : List ℕ) (i : ℕ) → i < length xs → sum (drop i xs) ≡ slice_index xs i + sum (drop (i + 1) xs)
sum_at [] i h = absurd (omega arith)
sum_at (x ∷ xs) zero h = sum_by-cons (λ y. y) x xs
sum_at (x ∷ xs) (suc i) h = let e : suc i + 1 ≡ suc (i + 1) = omega arith in rw e (sum_at xs i (omega arith))

pub drop_past : (xs : List ℕ) (i : ℕ) → length xs ≤ i → drop i xs ≡ []
drop_past [] zero h = refl
drop_past [] (suc i) h = refl
drop_past (x ∷ xs) zero h = absurd (omega arith)
drop_past (x ∷ xs) (suc i) h = drop_past xs i (omega arith)

module _ (w : Weighing) (cs : Classes) (list : List Node) (r : Run) (run : IsRun w (slot_by true cs) list r) (l : r.has_large ≡ false) where
  -- n counters before the end
  from_sum : (n k : ℕ) → k + n ≡ 32 → count_by (is_counted (is_from cs k)) (part list r.from r.to) ≡ sum (drop k r.counts)
  from_sum zero k e = omega (arith, beyond cs k (part list r.from r.to) (λ i h. run.large l i (omega arith)), ap sum (drop_past r.counts k (omega (arith, run.size))))
  from_sum (suc n) k e =
      let s : k + 1 ≡ suc k = omega arith in
      let d : sum (drop (k + 1) r.counts) ≡ sum (drop (suc k) r.counts) = ap (λ m. sum (drop m r.counts)) s in
      omega (arith, count_split cs k (part list r.from r.to), run.counts k (omega arith), sum_at r.counts k (omega (arith, run.size)), from_sum n (suc k) (omega arith), d)

  from_beyond : (k : ℕ) → 32 ≤ k → count_by (is_counted (is_from cs k)) (part list r.from r.to) ≡ 0
  from_beyond k h = beyond cs k (part list r.from r.to) (λ i g. run.large l i (omega arith))

module _ (w : Weighing) (cs : Classes) (s t : List Node) (a b : Run) (p : IsRun w (slot_by true cs) s a) (q : IsRun w (slot_by true cs) t b) (la : a.has_large ≡ false) (lb : b.has_large ≡ false) where
  from_one : (k : ℕ) → ((i : ℕ) → i ≤ 32 → sum (drop i b.counts) ≤ sum (drop i a.counts)) → (k ≤ 32) ⊎ (32 ≤ k) → count_by (is_counted (is_from cs k)) (part t b.from b.to) ≤ count_by (is_counted (is_from cs k)) (part s a.from a.to)
  from_one k h (inl l) = omega (arith, from_sum w cs s a p la (32 - k) k (omega arith), from_sum w cs t b q lb (32 - k) k (omega arith), h k l)
  from_one k h (inr g) = omega (arith, from_beyond w cs t b q lb k g)

  pub from_covers : ((i : ℕ) → i ≤ 32 → sum (drop i b.counts) ≤ sum (drop i a.counts)) → HasAll (test_by true cs) (part s a.from a.to) (part t b.from b.to)
  from_covers h k = from_one k h (grind arith)

  pub covers_from : HasAll (test_by true cs) (part s a.from a.to) (part t b.from b.to) → (i : ℕ) → i ≤ 32 → sum (drop i b.counts) ≤ sum (drop i a.counts)
  covers_from h i l = omega (arith, h i, from_sum w cs s a p la (32 - i) i (omega arith), from_sum w cs t b q lb (32 - i) i (omega arith))

-- no class number is above the number of classes
class_bound : (cs : Classes) (x : ℕ) → class_of cs x ≤ length cs
class_bound [] x = omega arith
class_bound (c ∷ cs) x = elim (bool_cases (is_among x c)) [
  | inl e ↦ omega (arith, if_true {A = ℕ} (is_among x c) 0 (class_of cs x + 1) e)
  | inr e ↦ omega (arith, if_false {A = ℕ} (is_among x c) 0 (class_of cs x + 1) e, class_bound cs x)
]

no_class : (cs : Classes) (k : ℕ) (ns : List Node) → length cs < k → count_by (is_counted (is_from cs k)) ns ≡ 0
no_class cs k [] h = refl
no_class cs k (App f n ∷ ns) h = omega (arith, no_class cs k ns h, sum_by-cons (λ m. cond {A = ℕ} (is_counted (is_from cs k) m) 1 0) (App f n) ns)
no_class cs k (Var x ∷ ns) h =
    let b = class_bound cs x in
    let z : cond {A = ℕ} (is_from cs k x) 1 0 ≡ 0 = let c = class_of cs x in grind (arith, nat_tests) in
    omega (arith, no_class cs k ns h, sum_by-cons (λ m. cond {A = ℕ} (is_counted (is_from cs k) m) 1 0) (Var x) ns)

pub all_classes : (cs : Classes) (s t : List Node) (k : ℕ) → length cs < k → ((j : ℕ) → j < k → count_by (is_counted (is_from cs j)) t ≤ count_by (is_counted (is_from cs j)) s) → HasAll (is_from cs) s t
all_classes cs s t k h f j = go (let a = length cs in grind arith)
  where
    go : (j < k) ⊎ (length cs < j) → count_by (is_counted (is_from cs j)) t ≤ count_by (is_counted (is_from cs j)) s
    go (inl l) = f j l
    go (inr g) = omega (arith, no_class cs j t g)

-- the loop from the last counter on
pub sum_before : (xs : List ℕ) (at : ℕ) → 0 < at → at ≤ length xs → sum (drop (at - 1) xs) ≡ slice_index xs (at - 1) + sum (drop at xs)
sum_before xs at h k =
    let e : at - 1 + 1 ≡ at = omega arith in
    sum_at xs (at - 1) (omega arith) ∙ ap (λ m. slice_index xs (at - 1) + sum (drop m xs)) e

pub so_far_more : (xs bs : List ℕ) (at : ℕ) → sum (drop (at - 1) bs) ≤ sum (drop (at - 1) xs) → ((k : ℕ) → at ≤ k → k ≤ 32 → sum (drop k bs) ≤ sum (drop k xs)) → (k : ℕ) → at - 1 ≤ k → k ≤ 32 → sum (drop k bs) ≤ sum (drop k xs)
so_far_more xs bs at h f k l m = go (grind arith)
  where
    go : (at ≤ k) ⊎ (k ≡ at - 1) → sum (drop k bs) ≤ sum (drop k xs)
    go (inl g) = f k g m
    go (inr e) = let P : ℕ → Type 0 = λ j. sum (drop j bs) ≤ sum (drop j xs) in subst P (sym e) h

-- n counters before the end, from which on all stand at 0
rest_sum : (xs : List ℕ) (n i : ℕ) → length xs ≡ 32 → i + n ≡ 32 → ((k : ℕ) → i ≤ k → k < 32 → slice_index xs k ≡ 0) → sum (drop i xs) ≡ 0
rest_sum xs zero i h e z = ap sum (drop_past xs i (omega arith))
rest_sum xs (suc n) i h e z = omega (arith, sum_at xs i (omega arith), z i (omega arith) (omega arith), rest_sum xs n (i + 1) h (omega arith) (λ k l m. z k (omega arith) m))

pub sum_rest : (xs : List ℕ) (end : ℕ) → length xs ≡ 32 → ((k : ℕ) → end ≤ k → k < 32 → slice_index xs k ≡ 0) → (i : ℕ) → end ≤ i → i ≤ 32 → sum (drop i xs) ≡ 0
sum_rest xs end h z i l m = rest_sum xs (32 - i) i h (omega arith) (λ k g. z k (omega arith))

pub so_far_rest : (xs bs : List ℕ) (end : ℕ) → length xs ≡ 32 → length bs ≡ 32 → ((k : ℕ) → end ≤ k → k < 32 → slice_index xs k ≡ 0) → ((k : ℕ) → end ≤ k → k < 32 → slice_index bs k ≡ 0) → (k : ℕ) → end ≤ k → k ≤ 32 → sum (drop k bs) ≤ sum (drop k xs)
so_far_rest xs bs end ha hb za zb k l m = omega (arith, sum_rest bs end hb zb k l m)

-- a counter behind those of the classes
no_slot : (cs : Classes) (i : ℕ) (ns : List Node) → length cs < i → count_by (is_counted (in_slot (class_of cs) i)) ns ≡ 0
no_slot cs i ns h = omega (arith, count_split cs i ns, no_class cs i ns h)

pub run_rest : (w : Weighing) (under : Bool) (cs : Classes) (list : List Node) (r : Run) → under ≡ true → IsRun w (slot_by under cs) (read_by under cs list) r → (i : ℕ) → i < 32 → length cs < i → slice_index r.counts i ≡ 0
run_rest w under cs list r u =
    let P : Bool → Type 0 = λ v. IsRun w (slot_by v cs) (read_by v cs list) r → (i : ℕ) → i < 32 → length cs < i → slice_index r.counts i ≡ 0 in
    subst P (sym u) (λ run i h l. run.counts i h ∙ no_slot cs i (part (read_by true cs list) r.from r.to) l)

-- counting node by node
pub count_step : (p : Node → Bool) (ns : List Node) (i : ℕ) (d : Node) → i < length ns → count_by p (take (i + 1) ns) ≡ count_by p (take i ns) + cond {A = ℕ} (p (get_or ns i d)) 1 0
count_step p ns i d h = sum_by_more (λ m. cond {A = ℕ} (p m) 1 0) ns i d h
