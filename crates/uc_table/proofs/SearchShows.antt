-- What a search shows of the models of a problem.
use Rattle.std.proofs.Common.{◌≡◌, ℕ, ◌≤◌, ◌<◌, List, sym, subst, arith}
use Rattle.std.specs.List.{concat}
use Rattle.uc_term.specs.declared.node.Sym.{Sym}
use Rattle.uc_term.specs.Table.{Table as SymbolTable}
use Rattle.uc_clause.specs.declared.clause.Sourced.{Sourced}
use Rattle.uc_table.specs.declared.table.Table.{Table}
use Rattle.uc_table.specs.declared.answers.Searched.{Searched}
use Rattle.uc_table.specs.Tables.{AreRows, IsTableOf}
use Rattle.uc_table.specs.Models.{IsModel}
use Rattle.uc_table.specs.SearchCells.{IsRefuted}
use Rattle.uc_table.specs.Searching.{Holds, IsOpenAt, IsReached, Searches, is_found, has_too_many_cells, has_too_many_assignments, is_spent, is_absent}
use Rattle.uc_table.specs.Least.{IsLeastModel, Shows}
use Rattle.uc_table.proofs.Readiness.{AreKnownClauses}
use Rattle.uc_table.proofs.SearchModels.{model_of_open, model_open}
use Rattle.uc_table.proofs.SearchOnce.{reached_some, passed}

module _ (symbols : SymbolTable) (signature : List Sym) (clauses : List Sourced) (budget : ℕ) (known : AreKnownClauses symbols signature clauses) where
  -- no table of an earlier size is a model
  none_earlier : {m count : ℕ} → IsReached symbols signature clauses budget m count → (other : Table) → IsTableOf symbols signature other → other.size < m → IsModel other clauses → ⊥
  none_earlier r other is l model = (passed symbols signature clauses budget r other.size is.some l).none (concat other.cells) (model_open symbols signature clauses other is known model)

  found_is : (m : ℕ) (t : List ℕ) (table : Table) → 1 ≤ m → m ≤ 8 → Holds symbols signature m t table → IsTableOf symbols signature table
  found_is m t table s l h =
      let e : table.size ≡ m = h.size_is in
      record {
        some = omega arith;
        most = omega arith;
        symbols_are = h.symbols_are;
        rows = subst (λ n. AreRows symbols n signature table.cells) (sym e) h.rows;
      }

  found_shows : {m count size : ℕ} (t : List ℕ) (table : Table) → size ≤ 8 → IsReached symbols signature clauses budget m count → m ≤ size → IsOpenAt symbols signature clauses m t → Holds symbols signature m t table → IsLeastModel symbols signature clauses size table
  found_shows {m} {size = size} t table most r l o h =
      let e : table.size ≡ m = h.size_is in
      let is = found_is m t table (reached_some symbols signature clauses budget r) (omega arith) h in
      record {
        is_table = is;
        within = omega arith;
        is_model = model_of_open symbols signature clauses table is known (λ refuted. o.open_is (subst (IsRefuted symbols signature clauses m) h.cells_are (subst (λ n. IsRefuted symbols signature clauses n (concat table.cells)) e refuted)));
        least = λ other are fewer model. none_earlier r other are (omega arith) model;
      }

  pub searches_show : (size : ℕ) (a : Searched) → size ≤ 8 → Searches symbols signature clauses budget size a → Shows symbols signature clauses size a
  searches_show size a most (is_found ps {t} {table} r l w all o f h) = found_shows t table most r l o h
  searches_show size a most (has_too_many_cells r l many) = tt
  searches_show size a most (has_too_many_assignments k r l few is many) = tt
  searches_show size a most (is_spent r l w f e v further) = tt
  searches_show size a most (is_absent r) = λ table is few model. none_earlier r table is (omega arith) model
