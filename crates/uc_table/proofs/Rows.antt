-- The rows of symbols, read one after the other.
use Rattle.std.proofs.Common.{◌≡◌, ℕ, ◌+◌, ◌<◌, ◌≤◌, List, [], ◌∷◌, ◌++◌, length, get_or, drop, refl, ap, ◌∙◌, subst, arith, nat_lt, false}
use Rattle.std.proofs.lemmas.Bool.Decides.{nat_tests}
use Rattle.std.specs.Prelude.{Ok, Err}
use Rattle.std.proofs.lemmas.List.{drop_more, drop_all}
use Rattle.uc_term.specs.declared.node.Sym.{Sym}
use Rattle.uc_term.specs.Table.{Table as SymbolTable}
use Rattle.uc_table.specs.declared.table.Table.{Table}
use Rattle.uc_table.specs.declared.fault.TableFault.{TableFault}
use Rattle.uc_table.specs.declared.fault.TableFault.TheVariants.{Syntax, Version, TooManyCells, TooManyBytes, NoMemory}
use Rattle.uc_table.specs.declared.lines.Cursor.{Cursor}
use Rattle.uc_table.specs.Lines.{Outcome, gets, fails, go_on, Rule, departs}
use Rattle.uc_table.specs.Reads.{Gives}
use Rattle.uc_table.specs.Reading.{cells_in, row_at, rows_after, table_lines, table_of, ends}

pub cells_push : (rows : List (List ℕ)) (row : List ℕ) → cells_in (rows ++ row ∷ []) ≡ cells_in rows + length row
cells_push [] row = omega arith
cells_push (r ∷ rs) row = omega (arith, cells_push rs row)

module _ (symbols : SymbolTable) (size : ℕ) (fs : List Sym) (rows : List (List ℕ)) (i cells : ℕ) (d : Sym) (within : i < length fs) (count : cells ≡ cells_in rows) (n : ℕ) (text : List ℕ) where
  one_row : (o : Outcome (List ℕ)) → row_at symbols size cells (get_or fs i d) n text ≡ o → rows_after symbols size rows (drop i fs) n text ≡ go_on o (λ row. rows_after symbols size (rows ++ row ∷ []) (drop (i + 1) fs))
  one_row o e =
      let e' : row_at symbols size (cells_in rows) (get_or fs i d) n text ≡ o = subst (λ k. row_at symbols size k (get_or fs i d) n text ≡ o) count e in
      ap (λ gs. rows_after symbols size rows gs n text) (drop_more fs i d within) ∙ ap (λ (x : Outcome (List ℕ)). go_on x (λ row. rows_after symbols size (rows ++ row ∷ []) (drop (i + 1) fs))) e'

  pub row_read : (row : List ℕ) (m : ℕ) (rest : List ℕ) → row_at symbols size cells (get_or fs i d) n text ≡ gets row m rest → rows_after symbols size rows (drop i fs) n text ≡ rows_after symbols size (rows ++ row ∷ []) (drop (i + 1) fs) m rest
  row_read row m rest e = one_row (gets row m rest) e

  pub row_refused : (fault : TableFault) → row_at symbols size cells (get_or fs i d) n text ≡ fails fault → rows_after symbols size rows (drop i fs) n text ≡ fails fault
  row_refused fault e = one_row (fails fault) e

-- a refusal, whatever it is
pub refused : {V : Type 0} (rule : Rule V) (bytes : List ℕ) (at : Cursor) (fault : TableFault) → rule at.number (drop at.from bytes) ≡ fails fault → Gives rule bytes at (Err fault)
refused rule bytes at (Syntax p) h = h
refused rule bytes at (Version p) h = h
refused rule bytes at (TooManyCells p) h = h
refused rule bytes at (TooManyBytes p) h = h
refused rule bytes at NoMemory h = tt

pub refused_likewise : {V W : Type 0} (rule : Rule V) (other : Rule W) (bytes : List ℕ) (at here : Cursor) (fault : TableFault) → (rule at.number (drop at.from bytes) ≡ fails fault → other here.number (drop here.from bytes) ≡ fails fault) → Gives rule bytes at (Err fault) → Gives other bytes here (Err fault)
refused_likewise rule other bytes at here (Syntax p) f h = f h
refused_likewise rule other bytes at here (Version p) f h = f h
refused_likewise rule other bytes at here (TooManyCells p) f h = f h
refused_likewise rule other bytes at here (TooManyBytes p) f h = f h
refused_likewise rule other bytes at here NoMemory f h = tt

pub not_above : (a b : ℕ) → b ≤ a → nat_lt a b ≡ false
not_above a b h = grind (arith, nat_tests)

-- the end of a text
module _ (symbols : SymbolTable) (signature : List Sym) (text : List ℕ) (small : length text ≤ 16777216) (table : Table) (n : ℕ) (from : ℕ) (lines : table_lines symbols signature 1 text ≡ gets table n (drop from text)) where
  in_small : table_of symbols signature text ≡ ends symbols signature (table_lines symbols signature 1 text)
  in_small = rw (not_above 16777216 (length text) small) refl

  pub goes_further : from < length text → table_of symbols signature text ≡ Err (departs n)
  goes_further h = in_small ∙ ap (ends symbols signature) (lines ∙ ap (gets table n) (drop_more text from 0 h))

  pub goes_no_further : length text ≤ from → table_of symbols signature text ≡ Ok table
  goes_no_further h = in_small ∙ ap (ends symbols signature) (lines ∙ ap (gets table n) (drop_all from text h))
