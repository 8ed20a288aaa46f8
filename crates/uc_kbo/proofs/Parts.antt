-- Runs that grow.
use Rattle.std.proofs.Common.{◌≡◌, ℕ, zero, suc, ◌+◌, ◌-◌, ◌*◌, ◌<◌, ◌≤◌, List, [], ◌∷◌, ◌++◌, length, take, drop, get_or, slice_index, refl, sym, ap, ◌∙◌, subst, arith, sum_by, count_by, cond, false, Bool, length-drop, drop-drop, replicate, ◌⊎◌, inl, inr}
use Rattle.std.proofs.lemmas.List.{length-take-le, length-replicate, get_or-replicate}
use Rattle.std.proofs.lemmas.List.Sums.{sum_by-cons, sum_by_more, sum_by-append, count_by-le-length}
use Rattle.uc_term.specs.declared.node.Node.{Node}
use Rattle.uc_term.specs.declared.node.Node.TheVariants.{Var, App}
use Rattle.uc_term.proofs.Terms.{take_of_length-le, flat_all-take-drop, whole-drop, count-of_list}
use Rattle.uc_term.proofs.Ahead.{Ahead, ahead_bounds, drop-at, ahead_var_at, ahead_app_at}
use Rattle.uc_term.specs.Tree.{nodes, nodes_all, of_list}
use Rattle.uc_term.specs.Flat.{spelled, flat_all, tree_of, AreWhole}
use Rattle.uc_kbo.specs.declared.run.Run.{Run}
use Rattle.uc_kbo.specs.Kbo.{Weighing}
use Rattle.uc_kbo.specs.Runs.{IsRun, part, is_counted, in_slot, node_weight, arguments}

pub sum_step : {X : Type 0} (f : X → ℕ) (xs : List X) (i : ℕ) (d : X) (base old new : ℕ) → i < length xs → new ≡ old + f (get_or xs i d) → old ≡ base + sum_by f (take i xs) → new ≡ base + sum_by f (take (i + 1) xs)
sum_step f xs i d base old new h e k = omega (arith, sum_by_more f xs i d h)

pub none_step : (p : Node → Bool) (xs : List Node) (i : ℕ) (d : Node) → i < length xs → p (get_or xs i d) ≡ false → count_by p (take i xs) ≡ 0 → count_by p (take (i + 1) xs) ≡ 0
none_step p xs i d h n z =
    let one : cond {A = ℕ} (p (get_or xs i d)) 1 0 ≡ 0 = rw n refl in
    omega (arith, sum_by_more (λ m. cond (p m) 1 0) xs i d h)

take_nil : {X : Type 0} (n : ℕ) → take {A = X} n [] ≡ []
take_nil zero = refl
take_nil (suc n) = refl

take_add : {X : Type 0} (a b : ℕ) (xs : List X) → take (a + b) xs ≡ take a xs ++ take b (drop a xs)
take_add zero b xs = let e : zero + b ≡ b = omega arith in ap (λ k. take k xs) e
take_add (suc a) b [] = take_nil (suc a + b) ∙ sym (take_nil b)
take_add (suc a) b (x ∷ xs) = let e : suc a + b ≡ suc (a + b) = omega arith in ap (λ k. take k (x ∷ xs)) e ∙ ap (λ l. x ∷ l) (take_add a b xs)

-- two parts in a row
pub part_join : (ns : List Node) (i j k : ℕ) → i ≤ j → j ≤ k → part ns i k ≡ part ns i j ++ part ns j k
part_join ns i j k h l =
    let e : k - i ≡ (j - i) + (k - j) = omega arith in
    let d : i + (j - i) ≡ j = omega arith in
    ap (λ n. take n (drop i ns)) e ∙ take_add (j - i) (k - j) (drop i ns) ∙ ap (λ l. part ns i j ++ take (k - j) l) (drop-drop (j - i) i ns ∙ ap (λ n. drop n ns) d)

pub length-part : (ns : List Node) (i j : ℕ) → i ≤ j → j ≤ length ns → length (part ns i j) ≡ j - i
length-part ns i j h l = length-take-le (j - i) (drop i ns) (omega (arith, length-drop i ns))

pub sum_join : (f : Node → ℕ) (ns : List Node) (i j k : ℕ) → i ≤ j → j ≤ k → sum_by f (part ns i k) ≡ sum_by f (part ns i j) + sum_by f (part ns j k)
sum_join f ns i j k h l = ap (sum_by f) (part_join ns i j k h l) ∙ sum_by-append f (part ns i j) (part ns j k)

pub record Taken (w : Weighing) (slot : ℕ → ℕ) (old : Run) (ns : List Node) (i : ℕ) (r : Run) : Type 0 where
  pub from : r.from ≡ old.from
  pub to : r.to ≡ old.to
  pub weight : r.weight ≡ old.weight + sum_by (node_weight w) (take i ns)
  pub small : r.weight ≤ 4294967295 * (r.to - r.from + i)
  pub size : length r.counts ≡ 32
  pub counts : (x : ℕ) → x < 32 → slice_index r.counts x ≡ slice_index old.counts x + count_by (is_counted (in_slot slot x)) (take i ns)
  pub large : r.has_large ≡ false → (old.has_large ≡ false) × ((x : ℕ) → 32 ≤ x → count_by (is_counted (in_slot slot x)) (take i ns) ≡ 0)

pub taken_all : (w : Weighing) (slot : ℕ → ℕ) (list : List Node) (old r : Run) (to i : ℕ) → IsRun w slot list old → old.to ≤ to → to ≤ length list → Taken w slot old (part list old.to to) i r → length (part list old.to to) ≤ i → i ≤ length (part list old.to to) → IsRun w slot list (record r { to = to })
taken_all w slot list old r to i run ahead within t all most =
    let whole : take i (part list old.to to) ≡ part list old.to to = take_of_length-le (part list old.to to) i all in
    let long = length-part list old.to to ahead within in
    record {
      ordered = omega (arith, run.ordered, t.from);
      within = within;
      weight = rw t.from (t.weight ∙ ap (λ l. old.weight + sum_by (node_weight w) l) whole ∙ ap (λ n. n + sum_by (node_weight w) (part list old.to to)) run.weight ∙ sym (sum_join (node_weight w) list old.from old.to to run.ordered ahead));
      small = omega (arith, t.small, t.to, t.from, run.ordered);
      size = t.size;
      counts = λ x h. rw t.from (t.counts x h ∙ ap (λ l. slice_index old.counts x + count_by (is_counted (in_slot slot x)) l) whole ∙ ap (λ n. n + count_by (is_counted (in_slot slot x)) (part list old.to to)) (run.counts x h) ∙ sym (sum_join (λ m. cond (is_counted (in_slot slot x) m) 1 0) list old.from old.to to run.ordered ahead));
      large = λ e x h. let k = t.large e in rw t.from (omega (arith, sum_join (λ m. cond (is_counted (in_slot slot x) m) 1 0) list old.from old.to to run.ordered ahead, run.large k.0 x h, k.1 x h, ap (count_by (is_counted (in_slot slot x))) whole));
    }

pub count_small : (p : Node → Bool) (xs : List Node) → count_by p xs ≤ length xs
count_small p xs = count_by-le-length p xs

-- as many terms as a place begins
pub ahead_many : (ns : List Node) (p k : ℕ) → AreWhole ns → k ≤ length (spelled (drop p ns)) → Ahead (drop p ns) k (nodes_all (of_list (take k (spelled (drop p ns)))))
ahead_many ns p k w h =
    let ms = drop p ns in
    let st = spelled ms in
    record {
      trees = of_list (take k st);
      rest = flat_all (of_list (drop k st));
      spells = sym (flat_all-take-drop k st ∙ whole-drop p ns w);
      counts = count-of_list (take k st) ∙ length-take-le k st h;
      sizes = refl;
    }

pub many_within : (ns : List Node) (p k : ℕ) → AreWhole ns → k ≤ length (spelled (drop p ns)) → p ≤ length ns → p + nodes_all (of_list (take k (spelled (drop p ns)))) ≤ length ns
many_within ns p k w h l = omega (arith, ahead_bounds _ _ _ (ahead_many ns p k w h), length-drop p ns)

pub to_sums : {E : Type 0} (a b x y : ℕ) → a ≡ x → b ≡ y → (b < a) ⊎ ((a ≡ b) × E) → (y < x) ⊎ ((x ≡ y) × E)
to_sums a b x y p q (inl l) = inl (omega arith)
to_sums a b x y p q (inr h) = inr (omega arith, h.1)

none_of : (p : ℕ) (ns : List Node) → part ns p p ≡ []
none_of p ns = let e : p - p ≡ 0 = omega arith in ap (λ n. take n (drop p ns)) e

pub run_new : (w : Weighing) (slot : ℕ → ℕ) (list : List Node) (p : ℕ) (r : Run) → p ≤ length list → r.from ≡ p → r.to ≡ p → r.weight ≡ 0 → r.counts ≡ replicate 32 0 → r.has_large ≡ false → IsRun w slot list r
run_new w slot list p r h f t wt c l =
    let e : part list r.from r.to ≡ [] = rw (f, t) (none_of p list) in
    record {
      ordered = omega arith;
      within = omega arith;
      weight = wt ∙ ap (sum_by (node_weight w)) (sym e);
      small = omega arith;
      size = ap length c ∙ length-replicate {A = ℕ} 32 0;
      counts = λ x k. ap (λ l. slice_index l x) c ∙ get_or-replicate {A = ℕ} 32 x 0 0 k ∙ ap (count_by (is_counted (in_slot slot x))) (sym e);
      large = λ q x k. ap (count_by (is_counted (in_slot slot x))) e;
    }

-- a run that is extended: xs are the nodes to come, of which i are taken
module _ (w : Weighing) (slot : ℕ → ℕ) (list : List Node) (old : Run) (to : ℕ) (run : IsRun w slot list old) (ahead : old.to ≤ to) (within : to ≤ length list) (small : length list ≤ 16777216) (i : ℕ) (r : Run) (t : Taken w slot old (part list old.to to) i r) (more : i < length (part list old.to to)) where
  pub room_weight : r.weight + 4294967295 < 18446744073709551616
  room_weight =
      let long = length-part list old.to to ahead within in
      omega (arith, t.small, t.from, t.to, run.ordered)

  pub room_counts : (x : ℕ) → x < 32 → slice_index r.counts x + 1 < 4294967296
  room_counts x h =
      let long = length-part list old.to to ahead within in
      let before = length-part list old.from old.to run.ordered run.within in
      let taken = length-take-le i (part list old.to to) (omega arith) in
      omega (arith, t.counts x h, run.counts x h, count_small (is_counted (in_slot slot x)) (part list old.from old.to), count_small (is_counted (in_slot slot x)) (take i (part list old.to to)), run.ordered, run.within)

  -- one node more
  pub taken_more : (r' : Run) (d n : Node) → n ≡ get_or (part list old.to to) i d → r'.from ≡ r.from → r'.to ≡ r.to → r'.weight ≡ r.weight + node_weight w n → r'.weight ≤ r.weight + 4294967295 → length r'.counts ≡ 32 → ((x : ℕ) → x < 32 → slice_index r'.counts x ≡ slice_index r.counts x + cond (is_counted (in_slot slot x) n) 1 0) → (r'.has_large ≡ false → (r.has_large ≡ false) × ((x : ℕ) → 32 ≤ x → is_counted (in_slot slot x) n ≡ false)) → Taken w slot old (part list old.to to) (i + 1) r'
  taken_more r' d n e f o wt sm sz cs lg =
      let xs = part list old.to to in
      record {
        from = f ∙ t.from;
        to = o ∙ t.to;
        weight = sum_step (node_weight w) xs i d old.weight r.weight r'.weight more (wt ∙ ap (λ m. r.weight + node_weight w m) e) t.weight;
        small = omega (arith, sm, t.small, f, o, t.from, t.to);
        size = sz;
        counts = λ x h. sum_step (λ m. cond (is_counted (in_slot slot x) m) 1 0) xs i d (slice_index old.counts x) (slice_index r.counts x) (slice_index r'.counts x) more (cs x h ∙ ap (λ m. slice_index r.counts x + cond (is_counted (in_slot slot x) m) 1 0) e) (t.counts x h);
        large = λ k. let a = lg k in let b = t.large a.0 in (b.0, λ x h. none_step (is_counted (in_slot slot x)) xs i d more (ap (is_counted (in_slot slot x)) (sym e) ∙ a.1 x h) (b.1 x h));
      }

-- a run that takes in the node behind it
part_one : (ns : List Node) (i : ℕ) (d : Node) → i < length ns → part ns i (i + 1) ≡ get_or ns i d ∷ []
part_one ns i d h = let e : i + 1 - i ≡ 1 = omega arith in ap (λ n. take n (drop i ns)) e ∙ ap (take 1) (drop-at ns i d h)

sum_next : (f : Node → ℕ) (ns : List Node) (from at : ℕ) (d n : Node) → from ≤ at → at < length ns → n ≡ get_or ns at d → sum_by f (part ns from (at + 1)) ≡ sum_by f (part ns from at) + f n
sum_next f ns from at d n h k e = omega (arith, sum_join f ns from at (at + 1) h (omega arith), ap (sum_by f) (part_one ns at d k), sum_by-cons f (get_or ns at d) [], ap f e)

module _ (w : Weighing) (slot : ℕ → ℕ) (list : List Node) (at : ℕ) (r : Run) (run : IsRun w slot list (record r { to = at })) (small : length list ≤ 16777216) where
  pub next_weight : r.weight + 4294967295 < 18446744073709551616
  next_weight = omega (arith, run.small, run.ordered, run.within)

  pub next_counts : (x : ℕ) → x < 32 → slice_index r.counts x + 1 < 4294967296
  next_counts x h = omega (arith, run.counts x h, count_small (is_counted (in_slot slot x)) (part list r.from at), length-part list r.from at run.ordered run.within, run.ordered, run.within)

  pub run_next : (r' : Run) (d n : Node) → at < length list → n ≡ get_or list at d → r'.from ≡ r.from → r'.weight ≡ r.weight + node_weight w n → r'.weight ≤ r.weight + 4294967295 → length r'.counts ≡ 32 → ((x : ℕ) → x < 32 → slice_index r'.counts x ≡ slice_index r.counts x + cond (is_counted (in_slot slot x) n) 1 0) → (r'.has_large ≡ false → (r.has_large ≡ false) × ((x : ℕ) → 32 ≤ x → is_counted (in_slot slot x) n ≡ false)) → IsRun w slot list (record r' { to = at + 1 })
  run_next r' d n more e f wt sm sz cs lg = record {
    ordered = omega (arith, run.ordered, f);
    within = omega arith;
    weight = rw f (wt ∙ ap (λ m. m + node_weight w n) run.weight ∙ sym (sum_next (node_weight w) list r.from at d n run.ordered more e));
    small = omega (arith, sm, run.small, run.ordered, f);
    size = sz;
    counts = λ x h. rw f (cs x h ∙ ap (λ m. m + cond {A = ℕ} (is_counted (in_slot slot x) n) 1 0) (run.counts x h) ∙ sym (sum_next (λ m. cond (is_counted (in_slot slot x) m) 1 0) list r.from at d n run.ordered more e));
    large = λ q x h. let a = lg q in let one : cond {A = ℕ} (is_counted (in_slot slot x) n) 1 0 ≡ 0 = rw (a.1 x h) refl in rw f (omega (arith, sum_next (λ m. cond (is_counted (in_slot slot x) m) 1 0) list r.from at d n run.ordered more e, run.large a.0 x h, one));
  }

-- the terms behind a node, of which its arguments are the first
pub ahead_node : (ns : List Node) (i k n : ℕ) (d m : Node) → get_or ns i d ≡ m → i < length ns → Ahead (drop i ns) k n → 0 < k → (0 < n) × Ahead (drop (i + 1) ns) (k - 1 + arguments m) (n - 1)
ahead_node ns i k n d (Var x) e h a some = let r = ahead_var_at ns i x k n d e h a some in let z : k - 1 ≡ k - 1 + 0 = omega arith in (r.0, subst (λ (j : ℕ). Ahead (drop (i + 1) ns) j (n - 1)) z r.1)
ahead_node ns i k n d (App f a) e h b some = ahead_app_at ns i f a k n d e h b some

-- the one term that begins at a place
pub one_enough : (ns : List Node) → 0 < length ns → 1 ≤ length (spelled ns)
one_enough [] h = absurd (omega arith)
one_enough (Var y ∷ ns) h = omega arith
one_enough (App f n ∷ ns) h = omega arith

one_spelled : (ns : List Node) → 0 < length ns → nodes_all (of_list (take 1 (spelled ns))) ≡ nodes (tree_of ns)
one_spelled [] h = absurd (omega arith)
one_spelled (Var y ∷ ns) h = omega arith
one_spelled (App f n ∷ ns) h = omega arith

pub one_term : (ns : List Node) (at to e : ℕ) → at < length ns → to ≡ at → e ≡ to + nodes_all (of_list (take 1 (spelled (drop to ns)))) → e ≡ at + nodes (tree_of (drop at ns))
one_term ns at to e h q k = omega (arith, k, q, ap (λ i. nodes_all (of_list (take 1 (spelled (drop i ns))))) q, one_spelled (drop at ns) (omega (arith, length-drop at ns)))
