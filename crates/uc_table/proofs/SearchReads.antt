-- What is read by the row of an instance is what its steps come to.
use Rattle.std.proofs.Common.{◌≡◌, ℕ, zero, suc, ◌+◌, ◌-◌, ◌*◌, ◌/◌, ◌%◌, ◌^◌, ◌≤◌, ◌<◌, List, [], ◌∷◌, ◌++◌, length, take, drop, get_or, set, refl, ap, sym, ◌∙◌, arith, subst, inl, inr, append_assoc, length-append}
use Rattle.std.specs.Prelude.{slice_get, nat_lt, Option, Some, None, ◌⊎◌}
use Rattle.std.specs.List.{AllByRecursion}
use Rattle.std.proofs.lemmas.Bool.{cases_Bool, cases_order, ltb-true, ltb-false}
use Rattle.std.proofs.lemmas.List.{length-take-le, length-drop, at_drop_more, get_or-drop, drop-set, drop-set-add, drop-append-le, take-append-le}
use Rattle.std.proofs.Math.Seq.{drop-append_seam}
use Rattle.std.proofs.lemmas.Option.{slice_get_past, slice_get-get_or}
use Rattle.std.proofs.lemmas.Nat.{mod_below}
use Rattle.std.proofs.lemmas.Grind.{common_steps}
use Rattle.uc_table.specs.declared.search_steps.Step.{Step}
use Rattle.uc_table.specs.declared.search_steps.Step.TheVariants.{Variable, Apply, Foreign}
use Rattle.uc_table.specs.declared.search_reads.Link.{Link}
use Rattle.uc_table.specs.declared.search_reads.Reads.{Reads}
use Rattle.uc_table.specs.Algebras.{place_of}
use Rattle.uc_table.specs.Tables.{AreValues, MOST_CELLS}
use Rattle.uc_table.specs.SearchSteps.{waits, go_on, read, run, AreSteps}
use Rattle.uc_table.specs.SearchReads.{add_at, places, link_of, links_of, LeavesTwo, fill, filled, Fits, IsAdded, AreRowsOf, AreReadsOf}
use Rattle.uc_table.proofs.Lists.{dropped, taken, place_below}
use Rattle.uc_table.proofs.SearchRuns.{not_lt}

length_add : (xs : List ℕ) (i d : ℕ) → length (add_at xs i d) ≡ length xs
length_add [] i d = refl
length_add (x ∷ xs) zero d = refl
length_add (x ∷ xs) (suc i) d = ap suc (length_add xs i d)

get_add : (xs : List ℕ) (i d : ℕ) → i < length xs → get_or (add_at xs i d) i 0 ≡ get_or xs i 0 + d
get_add [] i d l = absurd (omega arith)
get_add (x ∷ xs) zero d l = refl
get_add (x ∷ xs) (suc i) d l = get_add xs i d (omega arith)

set_add : (xs : List ℕ) (i d : ℕ) → i < length xs → set xs i (get_or xs i 0 + d) ≡ add_at xs i d
set_add [] i d l = absurd (omega arith)
set_add (x ∷ xs) zero d l = refl
set_add (x ∷ xs) (suc i) d l = ap (λ ys. x ∷ ys) (set_add xs i d (omega arith))

take_add : (xs : List ℕ) (n p d : ℕ) → p < n → take n (add_at xs p d) ≡ add_at (take n xs) p d
take_add xs zero p d l = absurd (omega arith)
take_add [] (suc n) p d l = refl
take_add (x ∷ xs) (suc n) zero d l = refl
take_add (x ∷ xs) (suc n) (suc p) d l = ap (λ ys. x ∷ ys) (take_add xs n p d (omega arith))

take_before : (xs : List ℕ) (n p d : ℕ) → n ≤ p → take n (add_at xs p d) ≡ take n xs
take_before xs zero p d l = refl
take_before [] (suc n) p d l = refl
take_before (x ∷ xs) (suc n) zero d l = absurd (omega arith)
take_before (x ∷ xs) (suc n) (suc p) d l = ap (λ ys. x ∷ ys) (take_before xs n p d (omega arith))

drop_past : (xs : List ℕ) (n p d : ℕ) → p < n → drop n (add_at xs p d) ≡ drop n xs
drop_past xs zero p d l = absurd (omega arith)
drop_past [] (suc n) p d l = refl
drop_past (x ∷ xs) (suc n) zero d l = refl
drop_past (x ∷ xs) (suc n) (suc p) d l = drop_past xs n p d (omega arith)

drop_add : (xs : List ℕ) (n p d : ℕ) → n ≤ p → drop n (add_at xs p d) ≡ add_at (drop n xs) (p - n) d
drop_add xs zero p d l = let e : p - 0 ≡ p = omega arith in rw e refl
drop_add [] (suc n) p d l = refl
drop_add (x ∷ xs) (suc n) zero d l = absurd (omega arith)
drop_add (x ∷ xs) (suc n) (suc p) d l = let e : suc p - suc n ≡ p - n = omega arith in rw e (drop_add xs n p d (omega arith))

place_add : (size : ℕ) (vs : List ℕ) (p d : ℕ) → p < length vs → place_of size (add_at vs p d) ≡ place_of size vs + d * size ^ (length vs - 1 - p)
place_add size [] p d l = absurd (omega arith)
place_add size (v ∷ vs) zero d l =
    let e : length (v ∷ vs) - 1 - 0 ≡ length vs = omega arith in
    rw e (omega arith)
place_add size (v ∷ vs) (suc p) d l =
    let e : length (v ∷ vs) - 1 - suc p ≡ length vs - 1 - p = omega arith in
    let h : place_of size (add_at vs p d) ≡ place_of size vs + d * size ^ (length vs - 1 - p) = place_add size vs p d (omega arith) in
    rw (e, length_add vs p d, h) (omega arith)

-- behind a symbol the stack is so high
after : (ss : List Step) (n : ℕ) (stack : List ℕ) → LeavesTwo ss (suc (length stack - n)) → LeavesTwo ss (suc (length (drop n stack)))
after ss n stack h = subst (λ m. LeavesTwo ss (suc m)) (sym (length-drop n stack)) h

deeper : (p n : ℕ) (stack : List ℕ) → p < length stack → n ≤ p → suc (p - n) < suc (length (drop n stack))
deeper p n stack l k = let len : length (drop n stack) ≡ length stack - n = length-drop n stack in omega arith

module _ (size a : ℕ) where
  abbrev Raised : List Step → List ℕ → ℕ → ℕ → Type 0
  Raised ss stack p d = places size a ss (add_at stack p d) ≡ add_at (places size a ss stack) (link_of size ss p).target (d * (link_of size ss p).stride)

  raised_by : (first n : ℕ) (ss : List Step) (stack : List ℕ) (p d : ℕ) → n ≤ length stack → p < length stack → (n ≤ p → Raised ss (0 ∷ drop n stack) (suc (p - n)) d) → Raised (Apply first n ∷ ss) stack p d
  raised_by first n ss stack p d w l r = elim (cases_Bool (nat_lt p n)) [
    | inl b ↦ rw b (front (ltb-true p n b))
    | inr b ↦ rw b (behind (ltb-false p n b))
  ]
    where
      m : length (take n stack) ≡ n
      m = length-take-le n stack w

      front : p < n → (first + place_of size (take n (add_at stack p d))) ∷ places size a ss (0 ∷ drop n (add_at stack p d)) ≡ (first + place_of size (take n stack) + d * size ^ (n - 1 - p)) ∷ places size a ss (0 ∷ drop n stack)
      front k =
          let e : place_of size (add_at (take n stack) p d) ≡ place_of size (take n stack) + d * size ^ (length (take n stack) - 1 - p) = place_add size (take n stack) p d (omega (arith, m, k)) in
          let f : place_of size (add_at (take n stack) p d) ≡ place_of size (take n stack) + d * size ^ (n - 1 - p) = subst (λ z. place_of size (add_at (take n stack) p d) ≡ place_of size (take n stack) + d * size ^ (z - 1 - p)) m e in
          let g : first + place_of size (add_at (take n stack) p d) ≡ first + place_of size (take n stack) + d * size ^ (n - 1 - p) = omega (arith, f) in
          rw (take_add stack n p d k, drop_past stack n p d k) (ap (λ z. z ∷ places size a ss (0 ∷ drop n stack)) g)

      behind : n ≤ p → (first + place_of size (take n (add_at stack p d))) ∷ places size a ss (0 ∷ drop n (add_at stack p d)) ≡ (first + place_of size (take n stack)) ∷ add_at (places size a ss (0 ∷ drop n stack)) (link_of size ss (suc (p - n))).target (d * (link_of size ss (suc (p - n))).stride)
      behind k = rw (take_before stack n p d k, drop_add stack n p d k) (ap (λ z. (first + place_of size (take n stack)) ∷ z) (r k))

  -- a greater value on the stack is added where it goes
  raised : (ss : List Step) (stack : List ℕ) (p d : ℕ) → p < length stack → LeavesTwo ss (length stack) → Raised ss stack p d
  raised [] stack p d l h = ap (add_at stack p) (omega arith)
  raised (Variable unit ∷ ss) stack p d l h = raised ss ((a / unit) % size ∷ stack) (suc p) d (omega arith) h
  raised (Apply first n ∷ ss) stack p d l h = raised_by first n ss stack p d h.0 l (λ k. raised ss (0 ∷ drop n stack) (suc (p - n)) d (deeper p n stack l k) (after ss n stack h.1))
  raised (Foreign ∷ ss) stack p d l h = absurd h

  -- a value that is read is added where it goes
  read_raised : (ss : List Step) (stack : List ℕ) (v : ℕ) → LeavesTwo ss (suc (length stack)) → places size a ss (v ∷ stack) ≡ add_at (places size a ss (0 ∷ stack)) (link_of size ss 0).target (v * (link_of size ss 0).stride)
  read_raised ss stack v h =
      let e : 0 + v ≡ v = omega arith in
      subst (λ z. places size a ss (z ∷ stack) ≡ add_at (places size a ss (0 ∷ stack)) (link_of size ss 0).target (v * (link_of size ss 0).stride)) e (raised ss (0 ∷ stack) 0 v (omega arith) h)

  within_by : (first n : ℕ) (ss : List Step) (stack : List ℕ) (p : ℕ) → (n ≤ p → (link_of size ss (suc (p - n))).target < length (places size a ss (0 ∷ drop n stack))) → (link_of size (Apply first n ∷ ss) p).target < length (places size a (Apply first n ∷ ss) stack)
  within_by first n ss stack p r = elim (cases_Bool (nat_lt p n)) [
    | inl b ↦ rw b (omega arith)
    | inr b ↦ rw b (more (r (ltb-false p n b)))
  ]
    where
      more : (link_of size ss (suc (p - n))).target < length (places size a ss (0 ∷ drop n stack)) → suc (link_of size ss (suc (p - n))).target < suc (length (places size a ss (0 ∷ drop n stack)))
      more k = omega arith

  target_within : (ss : List Step) (stack : List ℕ) (p : ℕ) → p < length stack → LeavesTwo ss (length stack) → (link_of size ss p).target < length (places size a ss stack)
  target_within [] stack p l h = l
  target_within (Variable unit ∷ ss) stack p l h = target_within ss ((a / unit) % size ∷ stack) (suc p) (omega arith) h
  target_within (Apply first n ∷ ss) stack p l h = within_by first n ss stack p (λ k. target_within ss (0 ∷ drop n stack) (suc (p - n)) (deeper p n stack l k) (after ss n stack h.1))
  target_within (Foreign ∷ ss) stack p l h = absurd h

  pub as_many : (ss : List Step) (stack : List ℕ) → LeavesTwo ss (length stack) → length (places size a ss stack) ≡ length (links_of size ss) + 2
  as_many [] stack h = let e : length stack ≡ 2 = h in omega arith
  as_many (Variable unit ∷ ss) stack h = as_many ss ((a / unit) % size ∷ stack) h
  as_many (Apply first n ∷ ss) stack h = let r : length (places size a ss (0 ∷ drop n stack)) ≡ length (links_of size ss) + 2 = as_many ss (0 ∷ drop n stack) (after ss n stack h.1) in omega arith
  as_many (Foreign ∷ ss) stack h = absurd h

  module _ (prefix : List ℕ) where
    filled_by : (first n : ℕ) (ss : List Step) (stack : List ℕ) → n ≤ length stack → LeavesTwo ss (suc (length stack - n)) → ((v : ℕ) → run size a prefix ss (v ∷ drop n stack) ≡ filled prefix (places size a ss (v ∷ drop n stack)) (links_of size ss)) → run size a prefix (Apply first n ∷ ss) stack ≡ filled prefix (places size a (Apply first n ∷ ss) stack) (links_of size (Apply first n ∷ ss))
    filled_by first n ss stack l h r = rw (not_lt (length stack) n l) (at (slice_get prefix (first + place_of size (take n stack))))
      where
        at : (o : Option ℕ) → go_on (read o (first + place_of size (take n stack)) (drop n stack)) (run size a prefix ss) ≡ fill o (first + place_of size (take n stack)) (λ v. filled prefix (add_at (places size a ss (0 ∷ drop n stack)) (link_of size ss 0).target (v * (link_of size ss 0).stride)) (links_of size ss))
        at None = refl
        at (Some v) = r v ∙ ap (λ z. filled prefix z (links_of size ss)) (read_raised ss (drop n stack) v (after ss n stack h))

    pub run_filled : (ss : List Step) (stack : List ℕ) → LeavesTwo ss (length stack) → run size a prefix ss stack ≡ filled prefix (places size a ss stack) (links_of size ss)
    run_filled [] stack h = refl
    run_filled (Variable unit ∷ ss) stack h = run_filled ss ((a / unit) % size ∷ stack) h
    run_filled (Apply first n ∷ ss) stack h = filled_by first n ss stack h.0 h.1 (λ v. run_filled ss (v ∷ drop n stack) (after ss n stack h.1))
    run_filled (Foreign ∷ ss) stack h = absurd h

  abbrev Small : List ℕ → Type 0
  Small xs = AllByRecursion (λ x. x < 4294967296) xs

  values_small : size < 4294967296 → (vs : List ℕ) → AreValues size vs → Small vs
  values_small s [] h = tt
  values_small s (v ∷ vs) h = (let l : v < size = h.0 in omega arith, values_small s vs h.1)

  small_at : (xs : List ℕ) (i : ℕ) → Small xs → get_or xs i 0 < 4294967296
  small_at [] i h = omega arith
  small_at (x ∷ xs) zero h = h.0
  small_at (x ∷ xs) (suc i) h = small_at xs i h.1

  value_in : (xs : List ℕ) (i w : ℕ) → AreValues size xs → slice_get xs i ≡ Some w → w < size
  value_in [] i w h e = cc
  value_in (x ∷ xs) zero w h e = let same : x ≡ w = cc in subst (λ z. z < size) same h.0
  value_in (x ∷ xs) (suc i) w h e = value_in xs i w h.1 e

  module _ (some : 0 < size) (short : size < 4294967296) where
    cell_within : (first n : ℕ) (stack : List ℕ) → n ≤ length stack → AreValues size stack → first + size ^ n ≤ MOST_CELLS → first + place_of size (take n stack) < MOST_CELLS
    cell_within first n stack l v h =
        let m : length (take n stack) ≡ n = length-take-le n stack l in
        let b : place_of size (take n stack) < size ^ length (take n stack) = place_below size (take n stack) (taken size n stack v) in
        let c : place_of size (take n stack) < size ^ n = subst (λ z. place_of size (take n stack) < size ^ z) m b in
        omega arith

    places_small : (ss : List Step) (stack : List ℕ) → AreSteps size ss → AreValues size stack → LeavesTwo ss (length stack) → Small (places size a ss stack)
    places_small [] stack s v h = values_small short stack v
    places_small (Variable unit ∷ ss) stack s v h = places_small ss ((a / unit) % size ∷ stack) s.1 (mod_below (a / unit) size some, v) h
    places_small (Apply first n ∷ ss) stack s v h =
        (let c : first + place_of size (take n stack) < MOST_CELLS = cell_within first n stack h.0 v s.0 in omega arith, places_small ss (0 ∷ drop n stack) s.1 (some, dropped size n stack v) (after ss n stack h.1))
    places_small (Foreign ∷ ss) stack s v h = absurd h

    sum_small : (ss : List Step) (stack : List ℕ) (w : ℕ) → AreSteps size ss → AreValues size stack → w < size → LeavesTwo ss (suc (length stack)) → get_or (places size a ss (0 ∷ stack)) (link_of size ss 0).target 0 + w * (link_of size ss 0).stride < 4294967296
    sum_small ss stack w s v l h =
        let b : get_or (places size a ss (w ∷ stack)) (link_of size ss 0).target 0 < 4294967296 = small_at (places size a ss (w ∷ stack)) (link_of size ss 0).target (places_small ss (w ∷ stack) s (l, v) h) in
        let g : get_or (add_at (places size a ss (0 ∷ stack)) (link_of size ss 0).target (w * (link_of size ss 0).stride)) (link_of size ss 0).target 0 ≡ get_or (places size a ss (0 ∷ stack)) (link_of size ss 0).target 0 + w * (link_of size ss 0).stride =
        get_add (places size a ss (0 ∷ stack)) (link_of size ss 0).target (w * (link_of size ss 0).stride) (target_within ss (0 ∷ stack) 0 (omega arith) h) in
        subst (λ z. z < 4294967296) g (subst (λ (z : List ℕ). get_or z (link_of size ss 0).target 0 < 4294967296) (read_raised ss stack w h) b)

    pub fits : (prefix : List ℕ) → AreValues size prefix → (ss : List Step) (stack : List ℕ) → AreSteps size ss → AreValues size stack → LeavesTwo ss (length stack) → Fits prefix (places size a ss stack) (links_of size ss)
    fits prefix p [] stack s v h = tt
    fits prefix p (Variable unit ∷ ss) stack s v h = fits prefix p ss ((a / unit) % size ∷ stack) s.1 (mod_below (a / unit) size some, v) h
    fits prefix p (Apply first n ∷ ss) stack s v h = (
      cell_within first n stack h.0 v s.0,
      λ w e. (
        target_within ss (0 ∷ drop n stack) 0 (omega arith) (after ss n stack h.1),
        sum_small ss (drop n stack) w s.1 (dropped size n stack v) (value_in prefix (first + place_of size (take n stack)) w p e) (after ss n stack h.1),
        subst (λ z. Fits prefix z (links_of size ss)) (read_raised ss (drop n stack) w (after ss n stack h.1)) (fits prefix p ss (w ∷ drop n stack) s.1 (value_in prefix (first + place_of size (take n stack)) w p e, dropped size n stack v) (after ss n stack h.1)),
      ),
    )
    fits prefix p (Foreign ∷ ss) stack s v h = absurd h

-- the cells are read one after another, in a row of its own
module _ (prefix : List ℕ) (links : List Link) (own : List ℕ) (at : ℕ) (dl : Link) (l : at < length links) (m : length own ≡ length links + 2) where
  split_own : drop at own ≡ get_or own at 0 ∷ drop (at + 1) own
  split_own = at_drop_more (λ (z : List ℕ). z) own at 0 (omega arith)

  split_links : drop at links ≡ get_or links at dl ∷ drop (at + 1) links
  split_links = at_drop_more (λ (z : List Link). z) links at dl l

  fits_here : Fits prefix (drop at own) (drop at links) → Fits prefix (get_or own at 0 ∷ drop (at + 1) own) (get_or links at dl ∷ drop (at + 1) links)
  fits_here f = subst (λ z. Fits prefix z (get_or links at dl ∷ drop (at + 1) links)) split_own (subst (Fits prefix (drop at own)) split_links f)

  pub waits_here : Fits prefix (drop at own) (drop at links) → length prefix ≤ get_or own at 0 → (filled prefix (drop at own) (drop at links) ≡ waits (get_or own at 0)) × (get_or own at 0 < MOST_CELLS)
  waits_here f h = (rw (split_own, split_links, slice_get_past prefix (get_or own at 0) h) refl, (fits_here f).0)

  module _ (f : Fits prefix (drop at own) (drop at links)) (h : get_or own at 0 < length prefix) where
    value_is : slice_get prefix (get_or own at 0) ≡ Some (get_or prefix (get_or own at 0) 0)
    value_is = slice_get-get_or prefix (get_or own at 0) 0 h

    t : ℕ
    t = (get_or links at dl).target

    d : ℕ
    d = get_or prefix (get_or own at 0) 0 * (get_or links at dl).stride

    here : ((get_or links at dl).target < length (drop (at + 1) own)) × (get_or (drop (at + 1) own) (get_or links at dl).target 0 + get_or prefix (get_or own at 0) 0 * (get_or links at dl).stride < 4294967296) × Fits prefix (add_at (drop (at + 1) own) (get_or links at dl).target (get_or prefix (get_or own at 0) 0 * (get_or links at dl).stride)) (drop (at + 1) links)
    here = (fits_here f).1 (get_or prefix (get_or own at 0) 0) value_is

    pub target_in : at + 1 + (get_or links at dl).target < length own
    target_in = let e : length (drop (at + 1) own) ≡ length own - (at + 1) = length-drop (at + 1) own in let k : (get_or links at dl).target < length (drop (at + 1) own) = here.0 in omega arith

    pub sum_in : get_or own (at + 1 + (get_or links at dl).target) 0 + get_or prefix (get_or own at 0) 0 * (get_or links at dl).stride < 4294967296
    sum_in = subst (λ z. z + get_or prefix (get_or own at 0) 0 * (get_or links at dl).stride < 4294967296) (get_or-drop (at + 1) own (get_or links at dl).target 0) here.1

    next_row : drop (at + 1) (set own (at + 1 + (get_or links at dl).target) (get_or own (at + 1 + (get_or links at dl).target) 0 + get_or prefix (get_or own at 0) 0 * (get_or links at dl).stride)) ≡ add_at (drop (at + 1) own) (get_or links at dl).target (get_or prefix (get_or own at 0) 0 * (get_or links at dl).stride)
    next_row = drop-set-add (at + 1) own (get_or links at dl).target (get_or own (at + 1 + (get_or links at dl).target) 0 + get_or prefix (get_or own at 0) 0 * (get_or links at dl).stride)
        ∙ ap (λ z. set (drop (at + 1) own) (get_or links at dl).target (z + get_or prefix (get_or own at 0) 0 * (get_or links at dl).stride)) (sym (get_or-drop (at + 1) own (get_or links at dl).target 0))
        ∙ set_add (drop (at + 1) own) (get_or links at dl).target (get_or prefix (get_or own at 0) 0 * (get_or links at dl).stride) here.0

    pub next_fits : Fits prefix (drop (at + 1) (set own (at + 1 + (get_or links at dl).target) (get_or own (at + 1 + (get_or links at dl).target) 0 + get_or prefix (get_or own at 0) 0 * (get_or links at dl).stride))) (drop (at + 1) links)
    next_fits = subst (λ z. Fits prefix z (drop (at + 1) links)) (sym next_row) here.2

    pub next_filled : filled prefix (drop at own) (drop at links) ≡ filled prefix (drop (at + 1) (set own (at + 1 + (get_or links at dl).target) (get_or own (at + 1 + (get_or links at dl).target) 0 + get_or prefix (get_or own at 0) 0 * (get_or links at dl).stride))) (drop (at + 1) links)
    next_filled = rw (split_own, split_links, value_is) (ap (λ z. filled prefix z (drop (at + 1) links)) (sym next_row))

-- a step adds its place to a row
module _ (size a top : ℕ) (stack row : List ℕ) (room : 1 ≤ top) (within : top ≤ length stack) (some : 0 < size) (live : AreValues size (drop top stack)) where
  pub added_variable : (unit : ℕ) → IsAdded size a (Variable unit) row row (drop top stack) (drop (top - 1) (set stack (top - 1) ((a / unit) % size)))
  added_variable unit =
      let e : top - 1 + 1 ≡ top = omega arith in
      let d : drop (top - 1) (set stack (top - 1) ((a / unit) % size)) ≡ (a / unit) % size ∷ drop top stack = drop-set stack (top - 1) ((a / unit) % size) (omega arith) ∙ ap (λ k. (a / unit) % size ∷ drop k stack) e in
      record {
        row = λ ss. subst (λ z. row ++ places size a ss ((a / unit) % size ∷ drop top stack) ≡ row ++ places size a ss z) (sym d) refl;
        leaves = λ ss h. subst (λ (z : List ℕ). LeavesTwo ss (length z)) d h;
        live = subst (AreValues size) (sym d) (mod_below (a / unit) size some, live);
        short = (let n : length (drop (top - 1) (set stack (top - 1) ((a / unit) % size))) ≡ length ((a / unit) % size ∷ drop top stack) = ap length d in omega arith);
      }

  pub added_apply : (first n place : ℕ) (new : List ℕ) → top + n ≤ length stack → place ≡ place_of size (take n (drop top stack)) → new ≡ row ++ (first + place) ∷ [] → IsAdded size a (Apply first n) row new (drop top stack) (drop (top + n - 1) (set stack (top + n - 1) 0))
  added_apply first n place new l e p =
      let m : top + n - 1 + 1 ≡ top + n = omega arith in
      let both : drop n (drop top stack) ≡ drop (top + n) stack = grind (arith, common_steps) in
      let d : drop (top + n - 1) (set stack (top + n - 1) 0) ≡ 0 ∷ drop n (drop top stack) = drop-set stack (top + n - 1) 0 (omega arith) ∙ ap (λ k. 0 ∷ drop k stack) m ∙ ap (λ r. 0 ∷ r) (sym both) in
      let q : new ≡ row ++ (first + place_of size (take n (drop top stack))) ∷ [] = p ∙ ap (λ z. row ++ (first + z) ∷ []) e in
      let len : length (drop n (drop top stack)) ≡ length (drop top stack) - n = length-drop n (drop top stack) in
      let high : length (drop top stack) ≡ length stack - top = length-drop top stack in
      record {
        row = λ ss. rw (q, d) (sym (append_assoc row ((first + place_of size (take n (drop top stack))) ∷ []) (places size a ss (0 ∷ drop n (drop top stack)))));
        leaves = λ ss h. (omega arith, subst (λ k. LeavesTwo ss (suc k)) len (subst (λ (z : List ℕ). LeavesTwo ss (length z)) d h));
        live = subst (AreValues size) (sym d) (some, dropped size n (drop top stack) live);
        short = (let k : length (drop (top + n - 1) (set stack (top + n - 1) 0)) ≡ length (0 ∷ drop n (drop top stack)) = ap length d in omega arith);
      }

row_before : (a n width : ℕ) → a < n → a * width + width ≤ n * width
row_before a zero width l = absurd (omega arith)
row_before zero (suc n) width l = omega arith
row_before (suc a) (suc n) width l = let h : a * width + width ≤ n * width = row_before a n width (omega arith) in omega arith

rows_before : (a n width : ℕ) → a * width + width ≤ n * width → 0 < width → a < n
rows_before a zero width h s = absurd (omega arith)
rows_before zero (suc n) width h s = omega arith
rows_before (suc a) (suc n) width h s = let r : a < n = rows_before a n width (omega arith) s in omega arith

rows_some : (n width : ℕ) → width ≤ n * width → 0 < width → 0 < n
rows_some zero width h s = absurd (omega arith)
rows_some (suc n) width h s = omega arith

-- one row more
pub more_rows : (size : ℕ) (steps : List Step) (n : ℕ) (old new : List ℕ) → LeavesTwo steps 0 → new ≡ old ++ places size n steps [] → AreRowsOf size steps (length (links_of size steps) + 2) n old → AreRowsOf size steps (length (links_of size steps) + 2) (n + 1) new
more_rows size steps n old new h e r = record {
  as_many = (let k : length new ≡ length old + length (places size n steps []) = ap length e ∙ length-append old (places size n steps []) in let m : length old ≡ n * (length (links_of size steps) + 2) = r.as_many in omega (arith, long));
  leaves = λ l. h;
  each = λ a l. rw e (cases a l (cases_order a n));
}
  where
    width : ℕ
    width = length (links_of size steps) + 2

    long : length (places size n steps []) ≡ length (links_of size steps) + 2
    long = as_many size n steps [] h

    room : (a : ℕ) → a < n → a * (length (links_of size steps) + 2) + (length (links_of size steps) + 2) ≤ length old
    room a l = subst (λ z. a * (length (links_of size steps) + 2) + (length (links_of size steps) + 2) ≤ z) (sym r.as_many) (row_before a n (length (links_of size steps) + 2) l)

    take_whole : (xs : List ℕ) (k : ℕ) → length xs ≡ k → take k xs ≡ xs
    take_whole xs k l = grind (arith, common_steps)

    cases : (a : ℕ) → a < n + 1 → (a ≡ n) ⊎ ((a < n) ⊎ (n < a)) → take (length (links_of size steps) + 2) (drop (a * (length (links_of size steps) + 2)) (old ++ places size n steps [])) ≡ places size a steps []
    cases a l (inl z) =
        let k : a * (length (links_of size steps) + 2) ≡ length old = ap (λ i. i * (length (links_of size steps) + 2)) z ∙ sym r.as_many in
        rw (k, drop-append_seam old (places size n steps [])) (take_whole (places size n steps []) (length (links_of size steps) + 2) long ∙ ap (λ i. places size i steps []) (sym z))
    cases a l (inr (inl z)) =
        let w : a * (length (links_of size steps) + 2) + (length (links_of size steps) + 2) ≤ length old = room a z in
        let d : length (drop (a * (length (links_of size steps) + 2)) old) ≡ length old - a * (length (links_of size steps) + 2) = length-drop (a * (length (links_of size steps) + 2)) old in
        rw (drop-append-le (a * (length (links_of size steps) + 2)) old (places size n steps []) (omega arith)) (take-append-le (length (links_of size steps) + 2) (drop (a * (length (links_of size steps) + 2)) old) (places size n steps []) (omega arith) ∙ r.each a z)
    cases a l (inr (inr z)) = absurd (omega arith)

links_short : (size : ℕ) (ss : List Step) → length (links_of size ss) ≤ length ss
links_short size [] = omega arith
links_short size (Variable unit ∷ ss) = let h : length (links_of size ss) ≤ length ss = links_short size ss in omega arith
links_short size (Apply first n ∷ ss) = let h : length (links_of size ss) ≤ length ss = links_short size ss in omega arith
links_short size (Foreign ∷ ss) = omega arith

-- so many links
pub few_links : (size : ℕ) (ss : List Step) (links : List Link) → links ≡ links_of size ss → length links ≤ length ss
few_links size ss links e = subst (λ (z : List Link). length z ≤ length ss) (sym e) (links_short size ss)

pub reads_are : (size : ℕ) (ss : List Step) (reads : Reads) (n : ℕ) → reads.links.items ≡ links_of size ss → reads.width ≡ length reads.links.items + 2 → AreRowsOf size ss (length (links_of size ss) + 2) n reads.rows.items → AreReadsOf size ss reads
reads_are size ss reads n e w r = record {
  some = omega arith;
  leaves = λ l. r.leaves (some_rows l);
  links = λ l. e;
  wide = λ l. w;
  each = λ a l. subst (λ k. take k (drop (a * k) reads.rows.items) ≡ places size a ss []) (sym same) (r.each a (fewer a l));
}
  where
    same : reads.width ≡ length (links_of size ss) + 2
    same = w ∙ ap (λ (z : List Link). length z + 2) e

    rows : length reads.rows.items ≡ n * reads.width
    rows = subst (λ k. length reads.rows.items ≡ n * k) (sym same) r.as_many

    some_rows : reads.width ≤ length reads.rows.items → 0 < n
    some_rows l = rows_some n reads.width (subst (λ k. reads.width ≤ k) rows l) (omega arith)

    fewer : (a : ℕ) → a * reads.width + reads.width ≤ length reads.rows.items → a < n
    fewer a l = rows_before a n reads.width (subst (λ k. a * reads.width + reads.width ≤ k) rows l) (omega arith)

-- an instance whose row is kept
module _ (size a : ℕ) (some : 0 < size) (short : size < 4294967296) (prefix : List ℕ) (values : AreValues size prefix) (ss : List Step) (reads : Reads) (s : AreSteps size ss) (is : AreReadsOf size ss reads)
    (row : List ℕ) (l : a * reads.width + reads.width ≤ length reads.rows.items) (row_is : row ≡ take reads.width (drop (a * reads.width) reads.rows.items)) where
  any : reads.width ≤ length reads.rows.items
  any = omega arith

  row_places : row ≡ places size a ss []
  row_places = row_is ∙ is.each a l

  pub row_long : length row ≡ length reads.links.items + 2
  row_long = ap length row_places ∙ as_many size a ss [] (is.leaves any) ∙ ap (λ (z : List Link). length z + 2) (sym (is.links any))

  pub row_short : length row ≤ length ss + 2
  row_short = let k : length reads.links.items ≤ length ss = few_links size ss reads.links.items (is.links any) in omega (arith, row_long)

  pub row_fits : Fits prefix row reads.links.items
  row_fits = subst (λ z. Fits prefix z reads.links.items) (sym row_places) (subst (Fits prefix (places size a ss [])) (sym (is.links any)) (fits size a some short prefix values ss [] s tt (is.leaves any)))

  pub row_ran : run size a prefix ss [] ≡ filled prefix row reads.links.items
  row_ran = run_filled size a prefix ss [] (is.leaves any) ∙ ap (filled prefix (places size a ss [])) (sym (is.links any)) ∙ ap (λ z. filled prefix z reads.links.items) (sym row_places)
