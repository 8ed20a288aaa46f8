-- Balances of runs that grow.
use Rattle.std.proofs.Common.{◌≡◌, ◌↔◌, ℕ, zero, suc, ◌+◌, ◌-◌, ◌<◌, ◌≤◌, ◌==◌, List, [], ◌∷◌, length, take, drop, get_or, slice_index, refl, sym, ap, ◌∙◌, subst, arith, count_by, cond, ◌⊎◌, inl, inr, Bool, true, false, replicate, if◌then◌else◌}
use Rattle.std.proofs.lemmas.List.{length-replicate, get_or-replicate, length-take-le}
use Rattle.std.proofs.lemmas.List.Sums.{sum_by-cons, sum_by-take-le}
use Rattle.std.proofs.lemmas.List.Folds.{sum_by-replicate}
use Rattle.std.proofs.lemmas.Bool.Decides.{nat_tests}
use Rattle.uc_term.specs.declared.node.Node.{Node}
use Rattle.uc_term.specs.declared.node.Node.TheVariants.{Var, App}
use Rattle.uc_term.specs.Flat.{tree_of}
use Rattle.uc_term.proofs.Terms.{take_of_length-le}
use Rattle.uc_order.specs.declared.order.Cmp.{Cmp}
use Rattle.uc_order.specs.VarOrders.{Classes}
use Rattle.uc_kbo.specs.declared.run.Run.{Run}
use Rattle.uc_kbo.specs.declared.balance.Balance.{Balance}
use Rattle.uc_kbo.specs.Kbo.{Weighing, is_it, None}
use Rattle.uc_kbo.specs.Runs.{IsRun, IsVerdict, HasAll, part, is_counted, test_by, above_by, slot_by, read_by}
use Rattle.uc_kbo.specs.Balances.{has_fewer, has_more, has_counter, is_asked, AsksFor, IsTallied, IsBalance}
use Rattle.uc_kbo.proofs.Parts.{sum_join, count_small}
use Rattle.uc_kbo.proofs.Covering.{read_plain, count_step}

-- how often a variable is among nodes
abbrev times : ℕ → List Node → ℕ
times k ns = count_by (is_counted (is_it k)) ns

same_times : (j k : ℕ) (ns : List Node) → j ≡ k → times j ns ≡ times k ns
same_times j k ns e = ap (λ m. count_by (is_counted (is_it m)) ns) e

-- a count of numbers is 0 exactly where none passes
one_counted : (p : ℕ → Bool) (x : ℕ) → p x ≡ true → cond {A = ℕ} (p x) 1 0 ≡ 1
one_counted p x e = rw e refl

none_passes : (p : ℕ → Bool) (xs : List ℕ) (i : ℕ) → count_by p xs ≡ 0 → i < length xs → p (slice_index xs i) ≡ true → ⊥
none_passes p [] i z h e = absurd (omega arith)
none_passes p (x ∷ xs) zero z h e = absurd (omega (arith, z, one_counted p x e, sum_by-cons (λ y. cond {A = ℕ} (p y) 1 0) x xs))
none_passes p (x ∷ xs) (suc i) z h e = none_passes p xs i (omega (arith, z, sum_by-cons (λ y. cond {A = ℕ} (p y) 1 0) x xs)) (omega arith) e

none_counted : (p : ℕ → Bool) (xs : List ℕ) → ((i : ℕ) → i < length xs → p (slice_index xs i) ≡ false) → count_by p xs ≡ 0
none_counted p [] h = refl
none_counted p (x ∷ xs) h =
    let here : cond {A = ℕ} (p x) 1 0 ≡ 0 = ap (λ b. cond {A = ℕ} b 1 0) (h zero (omega arith)) in
    omega (arith, here, none_counted p xs (λ i l. h (suc i) (omega arith)), sum_by-cons (λ y. cond {A = ℕ} (p y) 1 0) x xs)

-- tests of a counter
fewer_of : (c : ℕ) → c < 2147483648 → has_fewer c ≡ true
fewer_of c h = grind (arith, nat_tests)

not_fewer : (c : ℕ) → 2147483648 ≤ c → has_fewer c ≡ false
not_fewer c h = grind (arith, nat_tests)

more_of : (c : ℕ) → 2147483648 < c → has_more c ≡ true
more_of c h = grind (arith, nat_tests)

not_more : (c : ℕ) → c ≤ 2147483648 → has_more c ≡ false
not_more c h = grind (arith, nat_tests)

either : (a b : ℕ) → (a < b) ⊎ (b ≤ a)
either a b = grind arith

both_cases : (b : Bool) → (b ≡ true) ⊎ (b ≡ false)
both_cases true = inl refl
both_cases false = inr refl

-- which variables are counted
counter_from : (base k : ℕ) → has_counter base k ≡ true → base ≤ k
counter_from base k h = grind (arith, nat_tests)

counter_to : (base k : ℕ) → has_counter base k ≡ true → k < base + 8192
counter_to base k h = grind (arith, nat_tests)

counter_of : (base i : ℕ) → i < 8192 → has_counter base (base + i) ≡ true
counter_of base i h = grind (arith, nat_tests)

no_variable : (ns : List Node) → count_by (is_counted (λ x. false)) ns ≡ 0
no_variable [] = refl
no_variable (Var x ∷ ns) = omega (arith, no_variable ns, sum_by-cons (λ m. cond {A = ℕ} (is_counted (λ x. false) m) 1 0) (Var x) ns)
no_variable (App f n ∷ ns) = omega (arith, no_variable ns, sum_by-cons (λ m. cond {A = ℕ} (is_counted (λ x. false) m) 1 0) (App f n) ns)

asked_yes : (asked : ℕ → Bool) (k : ℕ) (ns : List Node) → asked k ≡ true → count_by (is_counted (is_asked asked k)) ns ≡ times k ns
asked_yes asked k ns e = ap (λ b. count_by (is_counted (λ x. if b then x == k else false)) ns) e

asked_no : (asked : ℕ → Bool) (k : ℕ) (ns : List Node) → asked k ≡ false → count_by (is_counted (is_asked asked k)) ns ≡ 0
asked_no asked k ns e = ap (λ b. count_by (is_counted (λ x. if b then x == k else false)) ns) e ∙ no_variable ns

-- what the two counts say of the variables that are asked for
module _ (ns ms : List Node) (r : Balance) (b : IsBalance ns ms r) (asked : ℕ → Bool) (fits : AsksFor (has_counter r.base) asked ns ms) where
  counter_at : (k : ℕ) → r.base ≤ k → k < r.base + 8192 → slice_index r.counts (k - r.base) + times k ms ≡ 2147483648 + times k ns
  counter_at k h l =
      let e : r.base + (k - r.base) ≡ k = omega arith in
      omega (arith, b.counts (k - r.base) (omega arith), same_times (r.base + (k - r.base)) k ns e, same_times (r.base + (k - r.base)) k ms e)

  first_at : (k : ℕ) → r.base ≤ k → k < r.base + 8192 → r.fewer ≡ 0 → (slice_index r.counts (k - r.base) < 2147483648) ⊎ (2147483648 ≤ slice_index r.counts (k - r.base)) → times k ms ≤ times k ns
  first_at k h m z (inl l) = absurd (none_passes has_fewer r.counts (k - r.base) (sym b.tallied.fewer ∙ z) (omega (arith, b.tallied.size)) (fewer_of (slice_index r.counts (k - r.base)) l))
  first_at k h m z (inr g) = omega (arith, g, counter_at k h m)

  second_at : (k : ℕ) → r.base ≤ k → k < r.base + 8192 → r.more ≡ 0 → (2147483648 < slice_index r.counts (k - r.base)) ⊎ (slice_index r.counts (k - r.base) ≤ 2147483648) → times k ns ≤ times k ms
  second_at k h m z (inl l) = absurd (none_passes has_more r.counts (k - r.base) (sym b.tallied.more ∙ z) (omega (arith, b.tallied.size)) (more_of (slice_index r.counts (k - r.base)) l))
  second_at k h m z (inr g) = omega (arith, g, counter_at k h m)

  first_met : (k : ℕ) → asked k ≡ true → r.fewer ≡ 0 → (0 < times k ns + times k ms) ⊎ (times k ns + times k ms ≤ 0) → times k ms ≤ times k ns
  first_met k e z (inl h) = let c = sym (fits k h) ∙ e in first_at k (counter_from r.base k c) (counter_to r.base k c) z (either (slice_index r.counts (k - r.base)) 2147483648)
  first_met k e z (inr h) = omega (arith, h)

  second_met : (k : ℕ) → asked k ≡ true → r.more ≡ 0 → (0 < times k ns + times k ms) ⊎ (times k ns + times k ms ≤ 0) → times k ns ≤ times k ms
  second_met k e z (inl h) = let c = sym (fits k h) ∙ e in second_at k (counter_from r.base k c) (counter_to r.base k c) z (either 2147483648 (slice_index r.counts (k - r.base)))
  second_met k e z (inr h) = omega (arith, h)

  first_all : r.fewer ≡ 0 → HasAll (is_asked asked) ns ms
  first_all z k = elim (both_cases (asked k)) [
    | inl e ↦ omega (arith, first_met k e z (either 0 (times k ns + times k ms)), asked_yes asked k ns e, asked_yes asked k ms e)
    | inr e ↦ omega (arith, asked_no asked k ms e)
  ]

  second_all : r.more ≡ 0 → HasAll (is_asked asked) ms ns
  second_all z k = elim (both_cases (asked k)) [
    | inl e ↦ omega (arith, second_met k e z (either 0 (times k ns + times k ms)), asked_yes asked k ns e, asked_yes asked k ms e)
    | inr e ↦ omega (arith, asked_no asked k ns e)
  ]

  first_has : (i : ℕ) → i < 8192 → HasAll (is_asked asked) ns ms → (0 < times (r.base + i) ns + times (r.base + i) ms) ⊎ (times (r.base + i) ns + times (r.base + i) ms ≤ 0) → times (r.base + i) ms ≤ times (r.base + i) ns
  first_has i l h (inl m) = let e = fits (r.base + i) m ∙ counter_of r.base i l in omega (arith, h (r.base + i), asked_yes asked (r.base + i) ns e, asked_yes asked (r.base + i) ms e)
  first_has i l h (inr m) = omega (arith, m)

  second_has : (i : ℕ) → i < 8192 → HasAll (is_asked asked) ms ns → (0 < times (r.base + i) ns + times (r.base + i) ms) ⊎ (times (r.base + i) ns + times (r.base + i) ms ≤ 0) → times (r.base + i) ns ≤ times (r.base + i) ms
  second_has i l h (inl m) = let e = fits (r.base + i) m ∙ counter_of r.base i l in omega (arith, h (r.base + i), asked_yes asked (r.base + i) ns e, asked_yes asked (r.base + i) ms e)
  second_has i l h (inr m) = omega (arith, m)

  first_none : HasAll (is_asked asked) ns ms → r.fewer ≡ 0
  first_none h = b.tallied.fewer ∙ none_counted has_fewer r.counts (λ i l. not_fewer (slice_index r.counts i) (let k : i < 8192 = omega (arith, l, b.tallied.size) in omega (arith, b.counts i k, first_has i k h (either 0 (times (r.base + i) ns + times (r.base + i) ms)))))

  second_none : HasAll (is_asked asked) ms ns → r.more ≡ 0
  second_none h = b.tallied.more ∙ none_counted has_more r.counts (λ i l. not_more (slice_index r.counts i) (let k : i < 8192 = omega (arith, l, b.tallied.size) in omega (arith, b.counts i k, second_has i k h (either 0 (times (r.base + i) ns + times (r.base + i) ms)))))

  pub first_covers : (r.fewer ≡ 0) ↔ HasAll (is_asked asked) ns ms
  first_covers = (first_all, first_none)

  pub second_covers : (r.more ≡ 0) ↔ HasAll (is_asked asked) ms ns
  second_covers = (second_all, second_none)

-- all counters are even at first
even_fewer : count_by has_fewer (replicate 8192 2147483648) ≡ 0
even_fewer = sum_by-replicate (λ c. cond {A = ℕ} (has_fewer c) 1 0) 8192 2147483648

even_more : count_by has_more (replicate 8192 2147483648) ≡ 0
even_more = sum_by-replicate (λ c. cond {A = ℕ} (has_more c) 1 0) 8192 2147483648

pub balance_new : (r : Balance) → r.counts ≡ replicate 8192 2147483648 → r.fewer ≡ 0 → r.more ≡ 0 → IsBalance [] [] r
balance_new r c f m = record {
  tallied = record {
    size = ap length c ∙ length-replicate {A = ℕ} 8192 2147483648;
    fewer = f ∙ sym (ap (count_by has_fewer) c ∙ even_fewer);
    more = m ∙ sym (ap (count_by has_more) c ∙ even_more);
  };
  counts = λ i h. (let e : slice_index r.counts i ≡ 2147483648 = ap (λ l. slice_index l i) c ∙ get_or-replicate {A = ℕ} 8192 i 2147483648 0 h in omega (arith, e));
}

-- i nodes are counted
pub record Gained (old : Balance) (ns : List Node) (i : ℕ) (r : Balance) : Type 0 where
  pub tallied : IsTallied r
  pub base : r.base ≡ old.base
  pub counts : (x : ℕ) → x < 8192 → slice_index r.counts x ≡ slice_index old.counts x + count_by (is_counted (is_it (old.base + x))) (take i ns)

pub record Lost (old : Balance) (ns : List Node) (i : ℕ) (r : Balance) : Type 0 where
  pub tallied : IsTallied r
  pub base : r.base ≡ old.base
  pub counts : (x : ℕ) → x < 8192 → slice_index old.counts x ≡ slice_index r.counts x + count_by (is_counted (is_it (old.base + x))) (take i ns)

taken_small : (x i : ℕ) (ns : List Node) → i ≤ length ns → times x (take i ns) ≤ i
taken_small x i ns h = omega (arith, count_small (is_counted (is_it x)) (take i ns), length-take-le i ns h)

taken_one : (j k : ℕ) (ns : List Node) (i : ℕ) (d n : Node) → i < length ns → n ≡ get_or ns i d → j ≡ k → times k (take (i + 1) ns) ≡ times k (take i ns) + cond {A = ℕ} (is_counted (is_it j) n) 1 0
taken_one j k ns i d n h e q =
    count_step (is_counted (is_it k)) ns i d h
    ∙ ap (λ m. times k (take i ns) + cond {A = ℕ} (is_counted (is_it k) m) 1 0) (sym e)
    ∙ ap (λ m. times k (take i ns) + cond {A = ℕ} (is_counted (is_it m) n) 1 0) (sym q)

module _ (old : Balance) (ns : List Node) where
  pub gained_init : IsTallied old → Gained old ns 0 old
  gained_init t = record { tallied = t; base = refl; counts = λ x h. omega arith }

  pub lost_init : IsTallied old → Lost old ns 0 old
  lost_init t = record { tallied = t; base = refl; counts = λ x h. omega arith }

  module _ (i : ℕ) (r : Balance) (more : i < length ns) where
    pub gained_room : Gained old ns i r → ((x : ℕ) → x < 8192 → slice_index old.counts x + length ns < 4294967296) → (x : ℕ) → x < 8192 → slice_index r.counts x + 1 < 4294967296
    gained_room g room x h = omega (arith, g.counts x h, room x h, taken_small (old.base + x) i ns (omega arith))

    pub lost_room : Lost old ns i r → ((x : ℕ) → x < 8192 → length ns ≤ slice_index old.counts x) → (x : ℕ) → x < 8192 → 0 < slice_index r.counts x
    lost_room g room x h = omega (arith, g.counts x h, room x h, taken_small (old.base + x) i ns (omega arith))

    base_at : (x : ℕ) → r.base ≡ old.base → r.base + x ≡ old.base + x
    base_at x e = ap (λ m. m + x) e

    pub gained_more : (r' : Balance) (d n : Node) → n ≡ get_or ns i d → IsTallied r' → r'.base ≡ r.base → ((x : ℕ) → x < 8192 → slice_index r'.counts x ≡ slice_index r.counts x + cond (is_counted (is_it (r.base + x)) n) 1 0) → Gained old ns i r → Gained old ns (i + 1) r'
    gained_more r' d n e t b c g = record {
      tallied = t;
      base = b ∙ g.base;
      counts = λ x h. omega (arith, c x h, g.counts x h, taken_one (r.base + x) (old.base + x) ns i d n more e (base_at x g.base));
    }

    pub lost_more : (r' : Balance) (d n : Node) → n ≡ get_or ns i d → IsTallied r' → r'.base ≡ r.base → ((x : ℕ) → x < 8192 → slice_index r.counts x ≡ slice_index r'.counts x + cond (is_counted (is_it (r.base + x)) n) 1 0) → Lost old ns i r → Lost old ns (i + 1) r'
    lost_more r' d n e t b c g = record {
      tallied = t;
      base = b ∙ g.base;
      counts = λ x h. omega (arith, c x h, g.counts x h, taken_one (r.base + x) (old.base + x) ns i d n more e (base_at x g.base));
    }

  module _ (i : ℕ) (r : Balance) (most : length ns ≤ i) where
    all_taken : take i ns ≡ ns
    all_taken = take_of_length-le ns i most

    pub gained_counts : Gained old ns i r → (x : ℕ) → x < 8192 → slice_index r.counts x ≡ slice_index old.counts x + count_by (is_counted (is_it (old.base + x))) ns
    gained_counts g x h = g.counts x h ∙ ap (λ l. slice_index old.counts x + times (old.base + x) l) all_taken

    pub lost_counts : Lost old ns i r → (x : ℕ) → x < 8192 → slice_index old.counts x ≡ slice_index r.counts x + count_by (is_counted (is_it (old.base + x))) ns
    lost_counts g x h = g.counts x h ∙ ap (λ l. slice_index r.counts x + times (old.base + x) l) all_taken

-- both runs grow
module _ (s t : List Node) (p q q' u v v' : ℕ) (b b' b'' : Balance) (h : p ≤ q) (k : q ≤ q') (l : u ≤ v) (m : v ≤ v') (old : IsBalance (part s p q) (part t u v) b) (gb : b'.base ≡ b.base) (gc : (i : ℕ) → i < 8192 → slice_index b'.counts i ≡ slice_index b.counts i + count_by (is_counted (is_it (b.base + i))) (part s q q')) where
  all_s : (x : ℕ) → times x (part s p q') ≡ times x (part s p q) + times x (part s q q')
  all_s x = sum_join (λ n. cond (is_counted (is_it x) n) 1 0) s p q q' h k

  all_t : (x : ℕ) → times x (part t u v') ≡ times x (part t u v) + times x (part t v v')
  all_t x = sum_join (λ n. cond (is_counted (is_it x) n) 1 0) t u v v' l m

  pub balance_more : IsTallied b'' → b''.base ≡ b'.base → ((i : ℕ) → i < 8192 → slice_index b'.counts i ≡ slice_index b''.counts i + count_by (is_counted (is_it (b'.base + i))) (part t v v')) → IsBalance (part s p q') (part t u v') b''
  balance_more tallied lb lc = record {
    tallied = tallied;
    counts = λ i j.
        let e : b'.base + i ≡ b.base + i = ap (λ n. n + i) gb in
        let f : b''.base + i ≡ b.base + i = ap (λ n. n + i) (lb ∙ gb) in
        omega (arith, old.counts i j, gc i j, lc i j, all_s (b.base + i), all_t (b.base + i), same_times (b'.base + i) (b.base + i) (part t v v') e, same_times (b''.base + i) (b.base + i) (part s p q') f, same_times (b''.base + i) (b.base + i) (part t u v') f);
  }

no_part : (p : ℕ) (ns : List Node) → part ns p p ≡ []
no_part p ns = let e : p - p ≡ 0 = omega arith in ap (λ n. take n (drop p ns)) e

pub balance_at : (s t : List Node) (a b : Run) (r : Balance) (p : ℕ) → a.from ≡ p → a.to ≡ p → b.from ≡ p → b.to ≡ p → IsBalance [] [] r → IsBalance (part s a.from a.to) (part t b.from b.to) r
balance_at s t a b r p fa ta fb tb h =
    let es : part s a.from a.to ≡ [] = rw (fa, ta) (no_part p s) in
    let et : part t b.from b.to ≡ [] = rw (fb, tb) (no_part p t) in
    rw (es, et) h

pub balance_ends : (s t : List Node) (a a' b b' : Run) (r : Balance) (i j : ℕ) → a'.from ≡ a.from → a'.to ≡ i → b'.from ≡ b.from → b'.to ≡ j → IsBalance (part s a.from i) (part t b.from j) r → IsBalance (part s a'.from a'.to) (part t b'.from b'.to) r
balance_ends s t a a' b b' r i j fa ta fb tb h = rw (fa, ta, fb, tb) h

-- the runs are parts of what comes from the first difference on
part_small : (x : ℕ) (ns : List Node) (at to : ℕ) → times x (part ns at to) ≤ times x (drop at ns)
part_small x ns at to = sum_by-take-le (λ m. cond {A = ℕ} (is_counted (is_it x) m) 1 0) (drop at ns) (to - at)

pub asks_parts : (s t : List Node) (at : ℕ) (a b : Run) (base base' : ℕ) (asked : ℕ → Bool) → base' ≡ base → a.from ≡ at → b.from ≡ at → AsksFor (has_counter base) asked (drop at s) (drop at t) → AsksFor (has_counter base') asked (part s a.from a.to) (part t b.from b.to)
asks_parts s t at a b base base' asked e fa fb f =
    let P : ℕ → Type 0 = λ n. AsksFor (has_counter n) asked (part s at a.to) (part t at b.to) in
    let g : AsksFor (has_counter base') asked (part s at a.to) (part t at b.to) = subst P (sym e) (λ k h. f k (omega (arith, h, part_small k s at a.to, part_small k t at b.to))) in
    rw (fa, fb) g

-- read as they are
pub to_read : (w : Weighing) (ns : List Node) (r : Run) → IsRun w (λ x. x) ns r → IsRun w (slot_by false []) (read_by false [] ns) r
to_read w ns r h = let P : List Node → Type 0 = λ l. IsRun w (λ x. x) l r in subst P (sym (read_plain [] ns)) h

pub from_read : (w : Weighing) (ns : List Node) (r : Run) → IsRun w (slot_by false []) (read_by false [] ns) r → IsRun w (λ x. x) ns r
from_read w ns r h = let P : List Node → Type 0 = λ l. IsRun w (λ x. x) l r in subst P (read_plain [] ns) h

pub read_as_is : (under : Bool) (cs : Classes) (ns : List Node) → under ≡ false → read_by under cs ns ≡ ns
read_as_is under cs ns e = ap (λ u. read_by u cs ns) e ∙ read_plain cs ns

pub verdict_read : (w : Weighing) (v : Cmp) (under : Bool) (cs : Classes) (s t : List Node) → under ≡ false → IsVerdict w is_it None v (tree_of s) (tree_of t) → IsVerdict w (test_by under cs) (above_by under cs) v (tree_of (read_by under cs s)) (tree_of (read_by under cs t))
verdict_read w v under cs s t e h =
    let P : Bool → Type 0 = λ u. IsVerdict w (test_by u cs) (above_by u cs) v (tree_of (read_by u cs s)) (tree_of (read_by u cs t)) in
    subst P (sym e) (rw (read_plain cs s, read_plain cs t) h)
