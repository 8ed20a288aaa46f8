-- What is printed of a table is read as that table.
use Rattle.std.proofs.Common.{◌≡◌, ℕ, ◌+◌, ◌-◌, ◌<◌, ◌≤◌, ◌==◌, ◌&&◌, nat_lt, nat_le, true, List, [], ◌∷◌, ◌++◌, length, codes, bytes_eq, decimal, Option, Some, refl, sym, ap, ◌∙◌, arith, append_assoc, append-nil}
use Rattle.std.specs.Prelude.{Ok}
use Rattle.std.specs.Cmp.Lexicographic.{bytes_decides}
use Rattle.std.specs.List.{AllByRecursion}
use Rattle.std.proofs.lemmas.Bool.{eq-eqb}
use Rattle.std.proofs.lemmas.Bool.Decides.{nat_tests}
use Rattle.std.proofs.Math.Nat.{one-le-pow}
use Rattle.std.proofs.lemmas.Fmt.{decimal_digit}
use Rattle.uc_term.specs.declared.node.Sym.{Sym}
use Rattle.uc_term.specs.Table.{Table as SymbolTable, name_of, arity_of}
use Rattle.uc_clause.specs.Bytes.{is_digit, in_line}
use Rattle.uc_clause.specs.Names.{spelling}
use Rattle.uc_clause.specs.Printable.{IsPrintableSymbol}
use Rattle.uc_table.specs.declared.table.Table.{Table}
use Rattle.uc_table.specs.Tables.{AreValues, IsRow, cell_count, cells_for, AreRows, MOST_CELLS}
use Rattle.uc_table.specs.Printing.{ended, table_line, size_line, end_line, symbol_line, spaced, values_line, rows_text, table_text}
use Rattle.uc_table.specs.Printable.{IsPrintableTable}
use Rattle.uc_table.specs.Lines.{first_line, Outcome, gets, go_on, pick, just, exactly, ◌>>=◌, gives}
use Rattle.uc_table.specs.Reading.{version_line, size_of, header_lines, is_value, values_of, checked_count, row_of, cells_in, limited, symbol_at, row_at, rows_after, table_by, table_lines, ends, table_of}
use Rattle.uc_table.proofs.FirstLines.{cut_line}
use Rattle.uc_table.proofs.InLine.{InLine, all_append, decimal_in_line, spelling_in_line}
use Rattle.uc_table.proofs.Rows.{cells_push, not_above}

-- a line that is printed is the first of the text
cut_ended : (line rest : List ℕ) → InLine line → first_line (ended line ++ rest) ≡ Some (record { line = line; rest = rest })
cut_ended line rest h = ap first_line (append_assoc line (10 ∷ []) rest) ∙ cut_line line rest h

picks_ended : {V : Type 0} (of : List ℕ → Option V) (v : V) (line rest : List ℕ) (n : ℕ) → InLine line → of line ≡ Some v → pick of n (ended line ++ rest) ≡ gets v (n + 1) rest
picks_ended of v line rest n h e = rw (cut_ended line rest h, e) refl

just_same : (line : List ℕ) → just line line ≡ Some (tt {0})
just_same line = let e : bytes_eq line line ≡ true = (bytes_decides line line).1 refl in rw e refl

exactly_ended : (line rest : List ℕ) (n : ℕ) → InLine line → exactly line n (ended line ++ rest) ≡ gets (tt {0}) (n + 1) rest
exactly_ended line rest n h = picks_ended (just line) (tt {0}) line rest n h (just_same line)

version_ended : (rest : List ℕ) (n : ℕ) → version_line n (ended table_line ++ rest) ≡ gets (tt {0}) (n + 1) rest
version_ended rest n = refl

size_again : (size : ℕ) → 1 ≤ size → size ≤ 8 → size_of (size_line size) ≡ Some size
size_again size some most =
    let digit : is_digit (48 + size) ≡ true = grind (arith, nat_tests) in
    let within : (nat_le 1 size && nat_le size 8) ≡ true = grind (arith, nat_tests) in
    let back : 48 + size - 48 ≡ size = omega arith in
    rw (decimal_digit size (omega arith), digit, back, within) refl

size_in_line : (size : ℕ) → size ≤ 8 → InLine (size_line size)
size_in_line size h = decimal_in_line size (omega arith)

module _ (size : ℕ) (most : size ≤ 8) where
  value_test : (v : ℕ) → v < size → is_value size (48 + v) ≡ true
  value_test v h =
      let digit : is_digit (48 + v) ≡ true = grind (arith, nat_tests) in
      let back : 48 + v - 48 ≡ v = omega arith in
      let below : nat_lt v size ≡ true = grind (arith, nat_tests) in
      rw (digit, back, below) refl

  values_again : (vs : List ℕ) → 0 < length vs → AreValues size vs → values_of size (values_line vs) ≡ Some vs
  values_again [] some h = absurd (omega arith)
  values_again (v ∷ []) some h =
      let t : is_value size (48 + v) ≡ true = value_test v h.0 in
      let back : 48 + v - 48 ≡ v = omega arith in
      rw (decimal_digit v (omega (arith, h.0)), t, back) refl
  values_again (v ∷ w ∷ ws) some h =
      let t : is_value size (48 + v) ≡ true = value_test v h.0 in
      let back : 48 + v - 48 ≡ v = omega arith in
      let later : values_of size (values_line (w ∷ ws)) ≡ Some (w ∷ ws) = values_again (w ∷ ws) (omega arith) h.1 in
      rw (decimal_digit v (omega (arith, h.0)), t, later, back) refl

  row_again : (count : ℕ) (row : List ℕ) → 0 < count → IsRow size count row → row_of size count (values_line row) ≡ Some row
  row_again count row some is =
      let test : (length row == count) ≡ true = eq-eqb (length row) count is.as_many in
      ap (checked_count size count) (values_again row (omega (arith, is.as_many)) is.values) ∙ rw test refl

  spaced_in_line : (vs : List ℕ) → AreValues size vs → InLine (spaced vs)
  spaced_in_line [] h = refl
  spaced_in_line (v ∷ vs) h = all_append in_line (decimal v) (spaced vs) (decimal_in_line v (omega (arith, h.0))) (spaced_in_line vs h.1)

  values_in_line : (vs : List ℕ) → AreValues size vs → InLine (values_line vs)
  values_in_line [] h = refl
  values_in_line (v ∷ vs) h = all_append in_line (decimal v) (spaced vs) (decimal_in_line v (omega (arith, h.0))) (spaced_in_line vs h.1)

few_enough : (cells n m : ℕ) (rest : List ℕ) → cells ≤ MOST_CELLS → limited cells n (gets (tt {0}) m rest) ≡ gets (tt {0}) m rest
few_enough cells n m rest h = rw (not_above MOST_CELLS cells h) refl

-- what rows are printed as is read again
record AreAgain (symbols : SymbolTable) (size : ℕ) (fs : List Sym) (rows all : List (List ℕ)) (n : ℕ) (text rest : List ℕ) : Type 0 where
  next : ℕ
  are : rows_after symbols size rows fs n text ≡ gets all next rest

module _ (symbols : SymbolTable) (size : ℕ) (some : 1 ≤ size) (most : size ≤ 8) where
  symbol_in_line : (f : Sym) → IsPrintableSymbol symbols f → InLine (symbol_line symbols f)
  symbol_in_line f h =
      all_append in_line (codes "% symbol " ++ spelling (name_of symbols f) ++ codes " ") (decimal (arity_of symbols f))
      (all_append in_line (codes "% symbol " ++ spelling (name_of symbols f)) (codes " ") (all_append in_line (codes "% symbol ") (spelling (name_of symbols f)) refl (spelling_in_line (name_of symbols f) h.1)) refl)
      (decimal_in_line (arity_of symbols f) (omega (arith, h.2)))

  row_ended : (cells : ℕ) (f : Sym) (row rest : List ℕ) (n : ℕ) → IsPrintableSymbol symbols f → IsRow size (cell_count symbols size f) row → cells + cell_count symbols size f ≤ MOST_CELLS → row_at symbols size cells f n (ended (symbol_line symbols f) ++ (ended (values_line row) ++ rest)) ≡ gets row (n + 1 + 1) rest
  row_ended cells f row rest n h is few =
      let first : symbol_at symbols size (cells + cell_count symbols size f) f n (ended (symbol_line symbols f) ++ (ended (values_line row) ++ rest)) ≡ gets (tt {0}) (n + 1) (ended (values_line row) ++ rest) =
      ap (limited (cells + cell_count symbols size f) n) (exactly_ended (symbol_line symbols f) (ended (values_line row) ++ rest) n (symbol_in_line f h)) ∙ few_enough (cells + cell_count symbols size f) n (n + 1) (ended (values_line row) ++ rest) few in
      let second : pick (row_of size (cell_count symbols size f)) (n + 1) (ended (values_line row) ++ rest) ≡ gets row (n + 1 + 1) rest =
      picks_ended (row_of size (cell_count symbols size f)) row (values_line row) rest (n + 1) (values_in_line size most row is.values) (row_again size most (cell_count symbols size f) row (one-le-pow (arity_of symbols f) size some) is) in
      ap (λ (o : Outcome (Unit {0})). go_on o (λ _. pick (row_of size (cell_count symbols size f)))) first ∙ second

  rows_again : (fs : List Sym) (rows more : List (List ℕ)) (n : ℕ) (rest : List ℕ) → AllByRecursion (IsPrintableSymbol symbols) fs → AreRows symbols size fs more → cells_in rows + cells_for symbols size fs ≤ MOST_CELLS → AreAgain symbols size fs rows (rows ++ more) n (rows_text symbols fs more ++ rest) rest
  rows_again [] rows [] n rest h are few = record { next = n; are = ap (λ rs. gets rs n rest) (sym (append-nil rows)) }
  rows_again [] rows (r ∷ rs) n rest h are few = absurd are
  rows_again (f ∷ fs) rows [] n rest h are few = absurd are
  rows_again (f ∷ fs) rows (row ∷ more) n rest h are few =
      let count : cells_in (rows ++ row ∷ []) ≡ cells_in rows + cell_count symbols size f = cells_push rows row ∙ ap (λ k. cells_in rows + k) are.0.as_many in
      let later : AreAgain symbols size fs (rows ++ row ∷ []) ((rows ++ row ∷ []) ++ more) (n + 1 + 1) (rows_text symbols fs more ++ rest) rest = rows_again fs (rows ++ row ∷ []) more (n + 1 + 1) rest h.1 are.1 (omega (arith, count)) in
      let parts : rows_text symbols (f ∷ fs) (row ∷ more) ++ rest ≡ ended (symbol_line symbols f) ++ (ended (values_line row) ++ (rows_text symbols fs more ++ rest)) = sym (three_parts (ended (symbol_line symbols f)) (ended (values_line row)) (rows_text symbols fs more) rest) in
      let here : row_at symbols size (cells_in rows) f n (ended (symbol_line symbols f) ++ (ended (values_line row) ++ (rows_text symbols fs more ++ rest))) ≡ gets row (n + 1 + 1) (rows_text symbols fs more ++ rest) = row_ended (cells_in rows) f row (rows_text symbols fs more ++ rest) n h.0 are.0 (omega arith) in
      record {
        next = later.next;
        are = ap (λ t. go_on (row_at symbols size (cells_in rows) f n t) (λ r. rows_after symbols size (rows ++ r ∷ []) fs)) parts
            ∙ ap (λ (o : Outcome (List ℕ)). go_on o (λ r. rows_after symbols size (rows ++ r ∷ []) fs)) here
            ∙ later.are ∙ ap (λ rs. gets rs later.next rest) (append_assoc rows (row ∷ []) more);
      }
    where
      three_parts : (a b c d : List ℕ) → a ++ (b ++ (c ++ d)) ≡ a ++ b ++ c ++ d
      three_parts a b c d = simp append_assoc

-- a whole table
module _ (symbols : SymbolTable) (table : Table) (h : IsPrintableTable symbols table) where
  header_again : (rest : List ℕ) → header_lines 1 (ended table_line ++ (ended (size_line table.size) ++ rest)) ≡ gets table.size (1 + 1 + 1) rest
  header_again rest =
      ap (λ (o : Outcome (Unit {0})). go_on o (λ _. pick size_of)) (version_ended (ended (size_line table.size) ++ rest) 1)
      ∙ picks_ended size_of table.size (size_line table.size) rest (1 + 1) (size_in_line table.size h.is.most) (size_again table.size h.is.some h.is.most)

  end_again : (n : ℕ) → exactly end_line n (ended end_line) ≡ gets (tt {0}) (n + 1) []
  end_again n = refl

  lines_again : (m : ℕ) × (table_lines symbols table.symbols 1 (ended table_line ++ (ended (size_line table.size) ++ (rows_text symbols table.symbols table.cells ++ ended end_line))) ≡ gets table m [])
  lines_again =
      let body : AreAgain symbols table.size table.symbols [] table.cells (1 + 1 + 1) (rows_text symbols table.symbols table.cells ++ ended end_line) (ended end_line) = rows_again symbols table.size h.is.some h.is.most table.symbols [] table.cells (1 + 1 + 1) (ended end_line) h.names h.is.rows (omega (arith, h.few)) in (
        body.next + 1,
        ap (λ (o : Outcome ℕ). go_on o (λ size. rows_after symbols size [] table.symbols >>= λ rows. exactly end_line >>= λ _. gives (table_by symbols table.symbols size rows))) (header_again (rows_text symbols table.symbols table.cells ++ ended end_line))
            ∙ ap (λ (o : Outcome (List (List ℕ))). go_on o (λ rows. exactly end_line >>= λ _. gives (table_by symbols table.symbols table.size rows))) body.are
            ∙ ap (λ (o : Outcome (Unit {0})). go_on o (λ _. gives (table_by symbols table.symbols table.size table.cells))) (end_again body.next),
      )

  pub table_again : (text : List ℕ) → text ≡ table_text symbols table → length text ≤ 16777216 → table_of symbols table.symbols text ≡ Ok table
  table_again text e small =
      let parts : table_text symbols table ≡ ended table_line ++ (ended (size_line table.size) ++ (rows_text symbols table.symbols table.cells ++ ended end_line)) = four_parts (ended table_line) (ended (size_line table.size)) (rows_text symbols table.symbols table.cells) (ended end_line) in
      let lines : table_lines symbols table.symbols 1 text ≡ gets table lines_again.0 [] = ap (table_lines symbols table.symbols 1) (e ∙ parts) ∙ lines_again.1 in
      rw (not_above 16777216 (length text) small) (ap (ends symbols table.symbols) lines)
    where
      four_parts : (a b c d : List ℕ) → a ++ b ++ c ++ d ≡ a ++ (b ++ (c ++ d))
      four_parts a b c d = simp append_assoc
