-- What a search comes to, from what its sizes come to.
use Rattle.std.proofs.Common.{◌≡◌, ℕ, ◌+◌, ◌-◌, ◌≤◌, ◌<◌, List, ◌∷◌, [], ◌++◌, length, sym, subst, arith}
use Rattle.uc_term.specs.declared.node.Sym.{Sym}
use Rattle.uc_term.specs.Table.{Table as SymbolTable}
use Rattle.uc_clause.specs.declared.clause.Sourced.{Sourced}
use Rattle.uc_table.specs.declared.table.Table.{Table}
use Rattle.uc_table.specs.declared.answers.Searched.TheVariants.{Found, Absent, Spent, Cells, Assignments}
use Rattle.uc_table.specs.Tables.{MOST_CELLS}
use Rattle.uc_table.specs.Searching.{cells_at, IsReached, is_next, Searches, is_found, has_too_many_cells, has_too_many_assignments, is_spent, is_absent}
use Rattle.uc_table.specs.SearchSizes.{FindsAt, NoneAt, SpentAt, TooManyAt}

module _ (symbols : SymbolTable) (signature : List Sym) (clauses : List Sourced) (budget size m count : ℕ) (reached : IsReached symbols signature clauses budget m count) (few : count ≤ budget) where
  pub whole_found : (table : Table) → m ≤ size → FindsAt symbols signature clauses m (budget - count) table → Searches symbols signature clauses budget size (Found table)
  whole_found table l f = let h : length (f.ps ++ f.cells ∷ []) ≤ budget - count = f.few in is_found f.ps reached l f.within f.all f.open_is (omega arith) f.holds

  pub whole_cells : m ≤ size → MOST_CELLS < cells_at symbols signature clauses m → Searches symbols signature clauses budget size (Cells m)
  whole_cells l h = has_too_many_cells reached l h

  pub whole_assignments : m ≤ size → TooManyAt symbols signature clauses m (budget - count) → Searches symbols signature clauses budget size (Assignments m)
  whole_assignments l h = has_too_many_assignments h.number reached l h.cells h.clause_is h.many

  pub whole_spent : m ≤ size → SpentAt symbols signature clauses m (budget - count) → Searches symbols signature clauses budget size (Spent budget)
  whole_spent l h = let e : length h.ps ≡ budget - count = h.count_is in is_spent reached l h.within h.first (omega arith) h.due h.further

  pub next_size : (n : ℕ) → NoneAt symbols signature clauses m (budget - count) n → IsReached symbols signature clauses budget (m + 1) (count + n)
  next_size n h =
      let e : n ≡ length h.ps = h.count_is in
      let f : n ≤ budget - count = h.few in
      subst (λ k. IsReached symbols signature clauses budget (m + 1) (count + k)) (sym e) (is_next reached h.within h.all h.none (omega arith))

  pub whole_absent : m ≡ size + 1 → Searches symbols signature clauses budget size Absent
  whole_absent e = is_absent (subst (λ k. IsReached symbols signature clauses budget k count) e reached)
