-- What phases that are shared out among threads come to: the tests, phase after phase, and the overlaps, row after row.
use Rattle.std.proofs.Common.{◌≡◌, ℕ, zero, suc, ◌+◌, ◌<◌, List, [], ◌∷◌, ◌++◌, length, get_or, map, take, drop, Option, refl, sym, ap, ◌∙◌, subst, arith, append_assoc, append-nil}
use Rattle.std.proofs.lemmas.List.{map-append, take_more}
use Rattle.std.specs.Prelude.{Result, Ok, IfOk}
use Rattle.uc_term.specs.declared.equation.Equation.{Equation}
use Rattle.uc_order.specs.Laws.{Meaning}
use Rattle.uc_fact.specs.Live.{Live}
use Rattle.uc_fact.specs.declared.fact.Origin.{Origin}
use Rattle.uc_pair.specs.declared.formed.Formed.{Formed}
use Rattle.uc_shelf.specs.declared.entry.Entry.{Entry}
use Rattle.uc_task.specs.declared.live.LiveFact.{LiveFact}
use Rattle.uc_task.specs.Living.{live_of}
use Rattle.uc_machine.specs.declared.task.Missing.{Missing}
use Rattle.uc_machine.specs.Lists.{Each}
use Rattle.uc_machine.specs.Finals.{OverlapsOf, AllOverlaps, no_outer, next_outer, Tests, all_tested, is_joined as joined_on, is_missing as missing_on}
use Rattle.uc_final.specs.Phases.{IsTested, list_of}
use Rattle.uc_final.specs.Made.{IsMade}
use Rattle.uc_final.specs.declared.testing.Test.{Test}
use Rattle.uc_final.proofs.Tested.{one_more}

-- LISTS

pub no_items : {A : Type 0} (xs : List A) → length xs ≡ 0 → xs ≡ []
no_items [] e = refl
no_items (x ∷ xs) e = absurd cc

-- a list written over a longer one
pub refilled : {A : Type 0} (n : ℕ) (ws vs : List A) → length ws ≡ n → take n (ws ++ vs) ≡ ws
refilled zero [] vs e = refl
refilled zero (w ∷ ws) vs e = absurd (omega (arith, e))
refilled (suc n) [] vs e = absurd (omega (arith, e))
refilled (suc n) (w ∷ ws) vs e = ap (λ l. w ∷ l) (refilled n ws vs (omega (arith, e)))

pub each_take : {A : Type 0} (P : A → Type 0) (k : ℕ) (xs : List A) → Each P xs → Each P (take k xs)
each_take P zero xs h = tt
each_take P (suc k) [] h = tt
each_take P (suc k) (x ∷ xs) h = (h.0, each_take P k xs h.1)

pub each_drop : {A : Type 0} (P : A → Type 0) (k : ℕ) (xs : List A) → Each P xs → Each P (drop k xs)
each_drop P zero xs h = h
each_drop P (suc k) [] h = tt
each_drop P (suc k) (x ∷ xs) h = each_drop P k xs h.1

each_of_places : {A : Type 0} (P : A → Type 0) (xs : List A) → ((k : ℕ) (d : A) → k < length xs → P (get_or xs k d)) → Each P xs
each_of_places P [] h = tt
each_of_places P (x ∷ xs) h = (h 0 x (omega arith), each_of_places P xs (λ k d l. h (suc k) d (omega arith)))

-- THE TESTS

abbrev pub origins_of : List Test → List Origin
origins_of ts = map (λ (t : Test). t.origin) ts

pub test_known : (P : Origin → Type 0) (ts : List Test) → Each P (origins_of ts) → (k : ℕ) (d : Test) → k < length ts → P (get_or ts k d).origin
test_known P [] h k d l = absurd (omega arith)
test_known P (t ∷ ts) h zero d l = h.0
test_known P (t ∷ ts) h (suc k) d l = test_known P ts h.1 k d (omega arith)

-- a test more
pub tests_more : (os : List Origin) (k : ℕ) (d : Origin) (old new : List Test) (t : Test) → k < length os → new ≡ old ++ t ∷ [] → t.origin ≡ get_or os k d → origins_of old ≡ take k os → origins_of new ≡ take (k + 1) os
tests_more os k d old new t h n e so = ap origins_of n ∙ map-append (λ (x : Test). x.origin) old (t ∷ []) ∙ ap (λ l. l ++ t.origin ∷ []) so ∙ ap (λ o. take k os ++ o ∷ []) e ∙ sym (take_more os k d h)

-- each test has its origin still
pub same_origins : (old new : List Test) → length new ≡ length old → ((k : ℕ) (d : Test) → k < length old → (get_or new k d).origin ≡ (get_or old k d).origin) → origins_of new ≡ origins_of old
same_origins [] [] long h = refl
same_origins [] (y ∷ ys) long h = absurd (omega (arith, long))
same_origins (x ∷ xs) [] long h = absurd (omega (arith, long))
same_origins (x ∷ xs) (y ∷ ys) long h =
    let head : y.origin ≡ x.origin = h 0 x (omega arith) in
    let rest = same_origins xs ys (omega (arith, long)) (λ k d l. h (suc k) d (omega arith)) in
    ap (λ o. o ∷ origins_of ys) head ∙ ap (λ os. x.origin ∷ os) rest

module _ (m : Meaning) (axioms : List Equation) (entries : List Entry) where
  -- what is left of the pairs has what the list lacks
  abbrev pub Continues : List Origin → List Origin → List Missing → Type 0
  Continues os rest list = (ms : List Missing) → Tests m axioms entries rest ms → Tests m axioms entries os (list ++ ms)

  tests_append : (os ps : List Origin) (ms ns : List Missing) → Tests m axioms entries os ms → Tests m axioms entries ps ns → Tests m axioms entries (os ++ ps) (ms ++ ns)
  tests_append _ ps _ ns all_tested b = b
  tests_append _ ps _ ns (joined_on {os = os} {ms = ms} t i j rest) b = joined_on t i j (tests_append os ps ms ns rest b)
  tests_append _ ps _ ns (missing_on {os = os} {ms = ms} t i n g rest) b = missing_on t i n g (tests_append os ps ms ns rest b)

  pub phases_begin : (os : List Origin) (list : List Missing) → list ≡ [] → Continues os os list
  phases_begin os list e = λ ms t. subst (Tests m axioms entries os) (sym (ap (λ l. l ++ ms) e)) t

  pub phase_on : (os rest phase later : List Origin) (old more new : List Missing) → phase ++ later ≡ rest → new ≡ old ++ more → Tests m axioms entries phase more → Continues os rest old → Continues os later new
  phase_on os rest phase later old more new e n t c = λ ms u.
      let whole : Tests m axioms entries rest (more ++ ms) = subst (λ l. Tests m axioms entries l (more ++ ms)) e (tests_append phase later more ms t u) in
      subst (Tests m axioms entries os) (sym (ap (λ l. l ++ ms) n ∙ append_assoc old more ms)) (c (more ++ ms) whole)

  pub phases_end : (os rest : List Origin) (list : List Missing) → rest ≡ [] → Continues os rest list → Tests m axioms entries os list
  phases_end os rest list e c = subst (Tests m axioms entries os) (append-nil list) (c [] (subst (λ l. Tests m axioms entries l []) (sym e) all_tested))

  -- one test more
  pub test_on : (os : List Origin) (t : Test) (ts : List Test) (x : Option Missing) (old new : List Missing) → IsTested m axioms entries t.origin x → new ≡ old ++ list_of x → Continues os (origins_of (t ∷ ts)) old → Continues os (origins_of ts) new
  test_on os t ts x old new i n c = phase_on os (origins_of (t ∷ ts)) (t.origin ∷ []) (origins_of ts) old (list_of x) new refl n (one_more m axioms entries t.origin x i) c

  pub all_made : (ts : List Test) → ((k : ℕ) (d : Test) → k < length ts → IsMade m axioms entries (get_or ts k d)) → Each (IsMade m axioms entries) ts
  all_made ts h = each_of_places (IsMade m axioms entries) ts h

-- THE OVERLAPS

module _ {E : Type 0} (m : Meaning) (inners : List Live) where
  -- each row has the overlaps of its fact, or memory was refused
  pub data AreRows : List LiveFact → List (Result (List Formed) E) → Type 0 where
    no_rows : AreRows [] []
    next_row : {f : LiveFact} {fs : List LiveFact} {r : Result (List Formed) E} {rs : List (Result (List Formed) E)} → IfOk r (OverlapsOf m (live_of f) inners) → AreRows fs rs → AreRows (f ∷ fs) (r ∷ rs)

  pub rows_are : (fs : List LiveFact) (rs : List (Result (List Formed) E)) → length rs ≡ length fs → ((k : ℕ) (r : Result (List Formed) E) (d : LiveFact) → k < length fs → IfOk (get_or rs k r) (OverlapsOf m (live_of (get_or fs k d)) inners)) → AreRows fs rs
  rows_are [] [] long h = no_rows
  rows_are [] (r ∷ rs) long h = absurd (omega (arith, long))
  rows_are (f ∷ fs) [] long h = absurd (omega (arith, long))
  rows_are (f ∷ fs) (r ∷ rs) long h = next_row (h 0 r f (omega arith)) (rows_are fs rs (omega (arith, long)) (λ k s d l. h (suc k) s d (omega arith)))

  -- the rows that are left have what the list lacks
  pub record Lacks (facts : List LiveFact) (rows : List (Result (List Formed) E)) (list : List Formed) : Type 0 where
    pub left : List LiveFact
    pub are : AreRows left rows
    pub leads : (gs : List Formed) → AllOverlaps m inners (map live_of left) gs → AllOverlaps m inners (map live_of facts) (list ++ gs)

  pub rows_begin : (facts : List LiveFact) (rows : List (Result (List Formed) E)) (list : List Formed) → list ≡ [] → AreRows facts rows → Lacks facts rows list
  rows_begin facts rows list e a = record { left = facts; are = a; leads = λ gs t. subst (AllOverlaps m inners (map live_of facts)) (sym (ap (λ l. l ++ gs) e)) t }

  row_next : (facts left : List LiveFact) (rows rest : List (Result (List Formed) E)) (old more new : List Formed) → rows ≡ Ok more ∷ rest → new ≡ old ++ more → AreRows left rows → ((gs : List Formed) → AllOverlaps m inners (map live_of left) gs → AllOverlaps m inners (map live_of facts) (old ++ gs)) → Lacks facts rest new
  row_next facts _ _ rest old more new e n no_rows c = absurd cc
  row_next facts _ _ rest old more new e n (next_row {f = f} {fs = fs} {r = r} {rs = rs} i a) c =
      let head : r ≡ Ok more = cc in
      let tail : rs ≡ rest = cc in
      let here : OverlapsOf m (live_of f) inners more = subst (λ x. IfOk x (OverlapsOf m (live_of f) inners)) head i in
      record { left = fs; are = subst (AreRows fs) tail a; leads = λ gs t. subst (AllOverlaps m inners (map live_of facts)) (sym (ap (λ l. l ++ gs) n ∙ append_assoc old more gs)) (c (more ++ gs) (next_outer here t)) }

  pub row_on : (facts : List LiveFact) (rows rest : List (Result (List Formed) E)) (old more new : List Formed) → rows ≡ Ok more ∷ rest → new ≡ old ++ more → Lacks facts rows old → Lacks facts rest new
  row_on facts rows rest old more new e n l = row_next facts l.left rows rest old more new e n l.are l.leads

  none_left : (left : List LiveFact) (rows : List (Result (List Formed) E)) → rows ≡ [] → AreRows left rows → left ≡ []
  none_left _ _ e no_rows = refl
  none_left _ _ e (next_row i a) = absurd cc

  pub rows_end : (facts : List LiveFact) (rows : List (Result (List Formed) E)) (list : List Formed) → rows ≡ [] → Lacks facts rows list → AllOverlaps m inners (map live_of facts) list
  rows_end facts rows list e l = subst (AllOverlaps m inners (map live_of facts)) (append-nil list) (l.leads [] (subst (λ fs. AllOverlaps m inners (map live_of fs) []) (sym (none_left l.left rows e l.are)) no_outer))
