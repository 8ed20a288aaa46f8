-- A search has one answer.
use Rattle.std.proofs.Common.{◌≡◌, ℕ, ◌+◌, ◌≤◌, ◌<◌, List, [], ◌∷◌, ◌++◌, length, slice_get, Some, refl, ap, sym, ◌∙◌, subst, arith, inl, inr}
use Rattle.std.specs.Prelude.{◌⊎◌}
use Rattle.std.specs.List.{concat}
use Rattle.std.proofs.lemmas.Bool.{cases_order}
use Rattle.uc_term.specs.declared.node.Sym.{Sym}
use Rattle.uc_term.specs.Table.{Table as SymbolTable}
use Rattle.uc_clause.specs.declared.clause.Sourced.{Sourced}
use Rattle.uc_table.specs.declared.table.Table.{Table}
use Rattle.uc_table.specs.declared.answers.Searched.{Searched}
use Rattle.uc_table.specs.declared.answers.Searched.TheVariants.{Found, Absent, Spent, Cells, Assignments}
use Rattle.uc_table.specs.Tables.{AreRows, MOST_CELLS}
use Rattle.uc_table.specs.Checks.{HasTooMany}
use Rattle.uc_table.specs.SearchCells.{IsRefuted}
use Rattle.uc_order.specs.Members.{In}
use Rattle.uc_table.specs.Searching.{Holds, cells_at, IsOpenAt, IsVisitedAt, AreAllAt, AreFirstAt, IsWithin, IsReached, is_first, is_next, Searches, is_found, has_too_many_cells, has_too_many_assignments, is_spent, is_absent}
use Rattle.uc_table.proofs.SearchOrder.{order_of}
use Rattle.uc_table.proofs.SearchVisits.{in_last}
use Rattle.uc_table.proofs.SearchOrdered.{all_same, all_more}

-- TABLES

two_parts : (xs ys us vs : List ℕ) → length xs ≡ length us → xs ++ ys ≡ us ++ vs → (xs ≡ us) × (ys ≡ vs)
two_parts [] ys [] vs l e = (refl, e)
two_parts [] ys (u ∷ us) vs l e = absurd (omega arith)
two_parts (x ∷ xs) ys [] vs l e = absurd (omega arith)
two_parts (x ∷ xs) ys (u ∷ us) vs l e =
    let h : x ≡ u = cc in
    let t : xs ++ ys ≡ us ++ vs = cc in
    let r = two_parts xs ys us vs (omega arith) t in
    (ap (λ z. z ∷ xs) h ∙ ap (λ zs. u ∷ zs) r.0, r.1)

rows_once : (symbols : SymbolTable) (size : ℕ) (fs : List Sym) (rows others : List (List ℕ)) → AreRows symbols size fs rows → AreRows symbols size fs others → concat rows ≡ concat others → rows ≡ others
rows_once symbols size [] [] [] a b e = refl
rows_once symbols size [] [] (x ∷ xs) a b e = absurd b
rows_once symbols size [] (x ∷ xs) others a b e = absurd a
rows_once symbols size (f ∷ fs) [] others a b e = absurd a
rows_once symbols size (f ∷ fs) (x ∷ xs) [] a b e = absurd b
rows_once symbols size (f ∷ fs) (x ∷ xs) (y ∷ ys) a b e =
    let p = two_parts x (concat xs) y (concat ys) (a.0.as_many ∙ sym b.0.as_many) e in
    ap (λ z. z ∷ xs) p.0 ∙ ap (λ zs. y ∷ zs) (rows_once symbols size fs xs ys a.1 b.1 p.1)

same_table : (a b : Table) → a.size ≡ b.size → a.symbols ≡ b.symbols → a.cells ≡ b.cells → a ≡ b
same_table a b s f c =
    ap (λ (n : ℕ). record { size = n; symbols = a.symbols; cells = a.cells }) s ∙
    ap (λ (fs : List Sym). record { size = b.size; symbols = fs; cells = a.cells }) f ∙
    ap (λ (rows : List (List ℕ)). record { size = b.size; symbols = b.symbols; cells = rows }) c

table_once : (symbols : SymbolTable) (signature : List Sym) (m : ℕ) (s t : List ℕ) (a b : Table) → s ≡ t → Holds symbols signature m s a → Holds symbols signature m t b → a ≡ b
table_once symbols signature m s t a b e x y = same_table a b (x.size_is ∙ sym y.size_is) (x.symbols_are ∙ sym y.symbols_are) (rows_once symbols m signature a.cells b.cells x.rows y.rows (x.cells_are ∙ e ∙ sym y.cells_are))

module _ (symbols : SymbolTable) (signature : List Sym) (clauses : List Sourced) (budget : ℕ) where
  abbrev Reached : ℕ → ℕ → Type 0
  Reached = IsReached symbols signature clauses budget

  abbrev AllAt : ℕ → List (List ℕ) → Type 0
  AllAt = AreAllAt symbols signature clauses

  -- SIZES

  pub reached_some : {m count : ℕ} → Reached m count → 1 ≤ m
  reached_some is_first = omega arith
  reached_some (is_next r w a n f) = omega arith

  -- a size is passed that has no model, within the limits and the budget
  pub record IsPassed (m : ℕ) : Type 0 where
    pub count : ℕ
    pub ps : List (List ℕ)
    pub reached : Reached m count
    pub within : IsWithin symbols signature clauses m
    pub all : AllAt m ps
    pub none : (t : List ℕ) → IsOpenAt symbols signature clauses m t → ⊥
    pub few : count + length ps ≤ budget

  pub passed : {m count : ℕ} → Reached m count → (n : ℕ) → 1 ≤ n → n < m → IsPassed n
  passed is_first n s l = absurd (omega arith)
  passed (is_next {m = m} {count = count} {ps = ps} r w a none f) n s l = elim (cases_order n m) [
    | inl e ↦ subst IsPassed (sym e) (record { count = count; ps = ps; reached = r; within = w; all = a; none = none; few = f })
    | inr h ↦ (elim h [
      | inl k ↦ passed r n s k
      | inr k ↦ absurd (omega arith)
    ])
  ]

  -- when a size is reached, so many prefixes are visited
  pub reached_once : {m n c d : ℕ} → Reached m c → Reached n d → m ≡ n → c ≡ d
  reached_once is_first is_first e = refl
  reached_once is_first (is_next r w a none f) e = absurd (omega (arith, reached_some r))
  reached_once (is_next r w a none f) is_first e = absurd (omega (arith, reached_some r))
  reached_once (is_next {m = m} {count = c} {ps = ps} r w a none f) (is_next {m = n} {count = d} {ps = qs} s x b other g) e =
      let same : m ≡ n = omega arith in
      let counts : c ≡ d = reached_once r s same in
      let lists : ps ≡ qs = all_same n (cells_at symbols signature clauses n) (IsRefuted symbols signature clauses n) ps qs (subst (λ k. AllAt k ps) same a) b in
      let long : length ps ≡ length qs = ap length lists in
      omega arith

  -- ANSWERS AT A SIZE

  -- the search ends at this size, which is reached with so many visited prefixes
  data Stops (m count : ℕ) : Searched → Type 0 where
    finds : (ps : List (List ℕ)) {t : List ℕ} {table : Table} → IsWithin symbols signature clauses m → AllAt m (ps ++ t ∷ []) → IsOpenAt symbols signature clauses m t → count + length (ps ++ t ∷ []) ≤ budget → Holds symbols signature m t table → Stops m count (Found table)
    has_cells : MOST_CELLS < cells_at symbols signature clauses m → Stops m count (Cells m)
    has_assignments : (k : ℕ) {s : Sourced} → cells_at symbols signature clauses m ≤ MOST_CELLS → slice_get clauses k ≡ Some s → HasTooMany m s → Stops m count (Assignments m)
    spends : {ps : List (List ℕ)} {p : List ℕ} → IsWithin symbols signature clauses m → AreFirstAt symbols signature clauses m ps → count + length ps ≡ budget → IsVisitedAt symbols signature clauses m p → (In ps p → ⊥) → Stops m count (Spent budget)

  many_within : (m k : ℕ) (s : Sourced) → IsWithin symbols signature clauses m → slice_get clauses k ≡ Some s → HasTooMany m s → ⊥
  many_within m k s w is many = let few = w.assignments k s is in absurd (omega arith)

  cells_within : (m : ℕ) → IsWithin symbols signature clauses m → MOST_CELLS < cells_at symbols signature clauses m → ⊥
  cells_within m w many = let few : cells_at symbols signature clauses m ≤ MOST_CELLS = w.cells in absurd (omega arith)

  -- the budget isn't spent where all prefixes are visited within it
  spent_within : (m count : ℕ) (ps qs : List (List ℕ)) (p : List ℕ) → AreFirstAt symbols signature clauses m ps → count + length ps ≡ budget → IsVisitedAt symbols signature clauses m p → (In ps p → ⊥) → AllAt m qs → count + length qs ≤ budget → ⊥
  spent_within m count ps qs p f e v further a few =
      let more : length ps + 1 ≤ length qs = all_more m (cells_at symbols signature clauses m) (IsRefuted symbols signature clauses m) ps qs p f v further a in
      absurd (omega arith)

  -- the table that is visited last is the first that isn't refuted
  found_once : (m : ℕ) (ps qs : List (List ℕ)) (s t : List ℕ) → AllAt m (ps ++ s ∷ []) → IsOpenAt symbols signature clauses m s → AllAt m (qs ++ t ∷ []) → IsOpenAt symbols signature clauses m t → s ≡ t
  found_once m ps qs s t a o b p = elim (order_of s t) [
    | inl before ↦ absurd ((b.visited t (in_last t qs)).is_first s o before)
    | inr h ↦ (elim h [
      | inl e ↦ e
      | inr before ↦ absurd ((a.visited s (in_last s ps)).is_first t p before)
    ])
  ]

  stops_once : {m count : ℕ} {a b : Searched} → Stops m count a → Stops m count b → a ≡ b
  stops_once {m} {count} (finds ps {t = s} {table = x} w a o f h) (finds qs {t} {table = y} v b p g i) = ap Found (table_once symbols signature m s t x y (found_once m ps qs s t a o b p) h i)
  stops_once {m} {count} (finds ps w a o f h) (has_cells many) = absurd (cells_within m w many)
  stops_once {m} {count} (finds ps w a o f h) (has_assignments k {s} few is many) = absurd (many_within m k s w is many)
  stops_once {m} {count} (finds ps {t} w a o f h) (spends {ps = qs} {p} v g e i further) = absurd (spent_within m count qs (ps ++ t ∷ []) p g e i further a f)
  stops_once {m} {count} (has_cells many) (finds ps w a o f h) = absurd (cells_within m w many)
  stops_once (has_cells many) (has_cells other) = refl
  stops_once (has_cells many) (has_assignments k few is other) = absurd (omega arith)
  stops_once {m} {count} (has_cells many) (spends w f e v further) = absurd (cells_within m w many)
  stops_once {m} {count} (has_assignments k {s} few is many) (finds ps w a o f h) = absurd (many_within m k s w is many)
  stops_once (has_assignments k few is other) (has_cells many) = absurd (omega arith)
  stops_once (has_assignments k few is many) (has_assignments l less at more) = refl
  stops_once {m} {count} (has_assignments k {s} few is many) (spends w f e v further) = absurd (many_within m k s w is many)
  stops_once {m} {count} (spends {ps = qs} {p} v g e i further) (finds ps {t} w a o f h) = absurd (spent_within m count qs (ps ++ t ∷ []) p g e i further a f)
  stops_once {m} {count} (spends w f e v further) (has_cells many) = absurd (cells_within m w many)
  stops_once {m} {count} (spends w f e v further) (has_assignments k {s} few is many) = absurd (many_within m k s w is many)
  stops_once (spends w f e v further) (spends x g d u other) = refl

  -- a size at which the search ends isn't passed
  stops_here : {m count : ℕ} {a : Searched} → Reached m count → Stops m count a → IsPassed m → ⊥
  stops_here r (finds ps {t} w a o f h) p = p.none t o
  stops_here {m} r (has_cells many) p = cells_within m p.within many
  stops_here {m} r (has_assignments k {s} few is many) p = many_within m k s p.within is many
  stops_here {m} {count} r (spends {ps} {p = q} w f e v further) p =
      let same : p.count ≡ count = reached_once p.reached r refl in
      let few : p.count + length p.ps ≤ budget = p.few in
      spent_within m count ps p.ps q f e v further p.all (omega arith)

  -- ANSWERS

  record Stopped (size : ℕ) (a : Searched) : Type 0 where
    m : ℕ
    count : ℕ
    reached : Reached m count
    within : m ≤ size
    stops : Stops m count a

  record Went (size : ℕ) (a : Searched) : Type 0 where
    count : ℕ
    reached : Reached (size + 1) count
    absent : a ≡ Absent

  ends_of : {size : ℕ} {a : Searched} → Searches symbols signature clauses budget size a → Stopped size a ⊎ Went size a
  ends_of (is_found {m} {count} ps r l w a o f h) = inl (record { m = m; count = count; reached = r; within = l; stops = finds ps w a o f h })
  ends_of (has_too_many_cells {m} {count} r l many) = inl (record { m = m; count = count; reached = r; within = l; stops = has_cells many })
  ends_of (has_too_many_assignments {m} {count} k r l few is many) = inl (record { m = m; count = count; reached = r; within = l; stops = has_assignments k few is many })
  ends_of (is_spent {m} {count} r l w f e v further) = inl (record { m = m; count = count; reached = r; within = l; stops = spends w f e v further })
  ends_of (is_absent {count} r) = inr (record { count = count; reached = r; absent = refl })

  -- no later size is reached
  never_later : {size n count : ℕ} {a : Searched} (x : Stopped size a) → Reached n count → x.m < n → ⊥
  never_later {n = n} x r l = stops_here x.reached x.stops (passed r x.m (reached_some x.reached) l)

  both_stop : {size : ℕ} {a b : Searched} → Stopped size a → Stopped size b → a ≡ b
  both_stop {a = a} {b = b} x y = elim (cases_order x.m y.m) [
    | inl e ↦ (let c : x.count ≡ y.count = reached_once x.reached y.reached e in stops_once (subst (λ n. Stops y.m n a) c (subst (λ m. Stops m x.count a) e x.stops)) y.stops)
    | inr h ↦ (elim h [
      | inl l ↦ absurd (never_later x y.reached l)
      | inr l ↦ absurd (never_later y x.reached l)
    ])
  ]

  pub searches_once : (size : ℕ) (a b : Searched) → Searches symbols signature clauses budget size a → Searches symbols signature clauses budget size b → a ≡ b
  searches_once size a b x y = go (ends_of x) (ends_of y)
    where
      go : Stopped size a ⊎ Went size a → Stopped size b ⊎ Went size b → a ≡ b
      go (inl p) (inl q) = both_stop p q
      go (inl p) (inr q) = absurd (never_later p q.reached (let l : p.m ≤ size = p.within in omega arith))
      go (inr p) (inl q) = absurd (never_later q p.reached (let l : q.m ≤ size = q.within in omega arith))
      go (inr p) (inr q) = p.absent ∙ sym q.absent
