-- A text that is read as a table is the one that is printed of it.
use Rattle.std.proofs.Common.{◌≡◌, ℕ, ◌+◌, ◌-◌, ◌<◌, ◌≤◌, ◌==◌, ◌&&◌, nat_lt, nat_le, nat_eq, Bool, true, false, List, [], ◌∷◌, ◌++◌, length, drop, bytes_eq, decimal, Option, Some, None, if◌then◌else◌, refl, sym, ap, ap₂, ◌∙◌, subst, arith, append_assoc, append-nil}
use Rattle.std.specs.Prelude.{Ok, Err}
use Rattle.std.specs.Cmp.Lexicographic.{bytes_decides}
use Rattle.std.specs.List.{starts_with}
use Rattle.std.proofs.lemmas.Bool.{eqb-true}
use Rattle.std.proofs.lemmas.Bool.Decides.{nat_tests}
use Rattle.std.proofs.lemmas.Fmt.{decimal_digit}
use Rattle.uc_term.specs.declared.node.Sym.{Sym}
use Rattle.uc_term.specs.Table.{Table as SymbolTable}
use Rattle.uc_clause.specs.Bytes.{is_digit}
use Rattle.uc_table.specs.declared.table.Table.{Table}
use Rattle.uc_table.specs.declared.fault.TableFault.TheVariants.{TooManyCells, TooManyBytes}
use Rattle.uc_table.specs.Tables.{AreValues, IsRow, cell_count, AreRows, IsTableOf, MOST_CELLS}
use Rattle.uc_table.specs.Printing.{ended, table_line, size_words, size_line, end_line, symbol_line, spaced, values_line, rows_text, table_text}
use Rattle.uc_table.specs.Lines.{Cut, first_line, with_byte, place_in, Outcome, gets, fails, go_on, value_or, picked, pick, just, exactly, ◌>>=◌, gives}
use Rattle.uc_table.specs.Reading.{version_fault, version_of, version_line, digit_of, checked_size, size_of, header_lines, is_value, with_value, values_of, checked_count, row_of, cells_in, limited, symbol_at, row_at, rows_after, table_by, table_lines, ends, table_of}
use Rattle.uc_table.proofs.InLine.{and_left, and_right}

-- the first line of a text with its line feed, and what stands behind it
pub cut_back : (text : List ℕ) (c : Cut) → first_line text ≡ Some c → text ≡ ended c.line ++ c.rest
cut_back [] c e = absurd cc
cut_back (b ∷ bs) c e = go (b == 10) refl e (cut_back bs)
  where
    with_front : (o : Option Cut) → first_line bs ≡ o → with_byte b o ≡ Some c → ((d : Cut) → first_line bs ≡ Some d → bs ≡ ended d.line ++ d.rest) → b ∷ bs ≡ ended c.line ++ c.rest
    with_front None q e later = absurd cc
    with_front (Some d) q e later =
        let same : record { line = b ∷ d.line; rest = d.rest } ≡ c = cc in
        subst (λ (x : Cut). b ∷ bs ≡ ended x.line ++ x.rest) same (ap (λ xs. b ∷ xs) (later d q))

    go : (t : Bool) → (b == 10) ≡ t → (if t then Some (record { line = []; rest = bs }) else with_byte b (first_line bs)) ≡ Some c → ((d : Cut) → first_line bs ≡ Some d → bs ≡ ended d.line ++ d.rest) → b ∷ bs ≡ ended c.line ++ c.rest
    go true q e later =
        let same : record { line = []; rest = bs } ≡ c = cc in
        let ten : b ≡ 10 = eqb-true b 10 q in
        subst (λ (x : Cut). b ∷ bs ≡ ended x.line ++ x.rest) same (ap (λ x. x ∷ bs) ten)
    go false q e later = with_front (first_line bs) refl e later

-- a line that has a value
record HasLine {V : Type 0} (of : List ℕ → Option V) (v : V) (text rest : List ℕ) : Type 0 where
  line : List ℕ
  value : of line ≡ Some v
  is : text ≡ ended line ++ rest

picks : {V : Type 0} (of : List ℕ → Option V) (n m : ℕ) (text rest : List ℕ) (v : V) → pick of n text ≡ gets v m rest → HasLine of v text rest
picks {V} of n m text rest v e = go (first_line text) refl e
  where
    by_value : (c : Cut) → first_line text ≡ Some c → (o : Option V) → of c.line ≡ o → value_or o n c.rest ≡ gets v m rest → HasLine of v text rest
    by_value c q None k e = absurd cc
    by_value c q (Some w) k e =
        let same : w ≡ v = cc in
        let tail : c.rest ≡ rest = cc in
        record { line = c.line; value = k ∙ ap Some same; is = cut_back text c q ∙ ap (λ r. ended c.line ++ r) tail }

    go : (o : Option Cut) → first_line text ≡ o → picked of n o ≡ gets v m rest → HasLine of v text rest
    go None q e = absurd cc
    go (Some c) q e = by_value c q (of c.line) refl e

just_is : (wanted line : List ℕ) → just wanted line ≡ Some (tt {0}) → line ≡ wanted
just_is wanted line e = go (bytes_eq line wanted) refl e
  where
    go : (t : Bool) → bytes_eq line wanted ≡ t → (if t then Some (tt {0}) else None) ≡ Some (tt {0}) → line ≡ wanted
    go true q e = (bytes_decides line wanted).0 q
    go false q e = absurd cc

exactly_is : (wanted : List ℕ) (n m : ℕ) (text rest : List ℕ) → exactly wanted n text ≡ gets (tt {0}) m rest → text ≡ ended wanted ++ rest
exactly_is wanted n m text rest e =
    let h : HasLine (just wanted) (tt {0}) text rest = picks (just wanted) n m text rest (tt {0}) e in
    h.is ∙ ap (λ l. ended l ++ rest) (just_is wanted h.line h.value)

pub version_is : (n m : ℕ) (text rest : List ℕ) → version_line n text ≡ gets (tt {0}) m rest → text ≡ ended table_line ++ rest
version_is n m text rest e = go (first_line text) refl e
  where
    by_test : (c : Cut) → first_line text ≡ Some c → (t : Bool) → bytes_eq c.line table_line ≡ t → (if t then gets (tt {0}) (n + 1) c.rest else fails (version_fault n c.line)) ≡ gets (tt {0}) m rest → text ≡ ended table_line ++ rest
    by_test c q true k e =
        let tail : c.rest ≡ rest = cc in
        cut_back text c q ∙ ap₂ (λ l r. ended l ++ r) ((bytes_decides c.line table_line).0 k) tail
    by_test c q false k e = absurd cc

    go : (o : Option Cut) → first_line text ≡ o → version_of n o ≡ gets (tt {0}) m rest → text ≡ ended table_line ++ rest
    go None q e = absurd cc
    go (Some c) q e = by_test c q (bytes_eq c.line table_line) refl e

-- the size in a line
record IsSize (line : List ℕ) (size : ℕ) : Type 0 where
  some : 1 ≤ size
  most : size ≤ 8
  is : line ≡ size_line size

begins : (xs ys : List ℕ) → starts_with nat_eq xs ys ≡ true → xs ≡ ys ++ drop (length ys) xs
begins xs [] e = refl
begins [] (y ∷ ys) e = absurd cc
begins (x ∷ xs) (y ∷ ys) e =
    let head : y ≡ x = eqb-true y x (and_left (nat_eq y x) _ e) in
    ap₂ (λ a l. a ∷ l) (sym head) (begins xs ys (and_right (nat_eq y x) _ e))

one_digit : (ds : List ℕ) (n : ℕ) → digit_of ds ≡ Some n → n < 10 → ds ≡ decimal n
one_digit [] n e h = absurd cc
one_digit (b ∷ []) n e h = go (is_digit b) refl e
  where
    go : (t : Bool) → is_digit b ≡ t → (if t then Some (b - 48) else None) ≡ Some n → b ∷ [] ≡ decimal n
    go true q e =
        let same : b - 48 ≡ n = cc in
        let low : 48 ≤ b = grind (arith, nat_tests) in
        let sum : b ≡ 48 + n = omega arith in
        ap (λ x. x ∷ []) sum ∙ sym (decimal_digit n h)
    go false q e = absurd cc
one_digit (b ∷ c ∷ ds) n e h = absurd cc

size_is : (line : List ℕ) (size : ℕ) → size_of line ≡ Some size → IsSize line size
size_is line size e = go (starts_with nat_eq line size_words) refl e
  where
    bounds : (n : ℕ) (t : Bool) → (nat_le 1 n && nat_le n 8) ≡ t → (if t then Some n else None) ≡ Some size → (n ≡ size) × (1 ≤ n) × (n ≤ 8)
    bounds n true q e = let same : n ≡ size = cc in (same, grind (arith, nat_tests), grind (arith, nat_tests))
    bounds n false q e = absurd cc

    by_digit : (o : Option ℕ) → digit_of (drop (length size_words) line) ≡ o → checked_size o ≡ Some size → line ≡ size_words ++ drop (length size_words) line → IsSize line size
    by_digit None q e l = absurd cc
    by_digit (Some n) q e l =
        let b : (n ≡ size) × (1 ≤ n) × (n ≤ 8) = bounds n (nat_le 1 n && nat_le n 8) refl e in
        let d : drop (length size_words) line ≡ decimal n = one_digit (drop (length size_words) line) n q (omega (arith, b.2)) in
        record { some = omega (arith, b.0, b.1); most = omega (arith, b.0, b.2); is = l ∙ ap (λ ds. size_words ++ ds) d ∙ ap size_line b.0 }

    go : (t : Bool) → starts_with nat_eq line size_words ≡ t → (if t then checked_size (digit_of (drop (length size_words) line)) else None) ≡ Some size → IsSize line size
    go true q e = by_digit (digit_of (drop (length size_words) line)) refl e (begins line size_words q)
    go false q e = absurd cc

-- the values in a line
module _ (size : ℕ) (most : size ≤ 8) where
  -- a line of such values, one at least
  record IsLine (line vs : List ℕ) : Type 0 where
    some : 0 < length vs
    values : AreValues size vs
    is : line ≡ values_line vs

  value_digit : (b : ℕ) → is_value size b ≡ true → (b - 48 < size) × (b ∷ [] ≡ decimal (b - 48))
  value_digit b h =
      let low : 48 ≤ b = grind (arith, nat_tests) in
      let below : b - 48 < size = grind (arith, nat_tests) in
      let sum : b ≡ 48 + (b - 48) = omega arith in
      (below, ap (λ x. x ∷ []) sum ∙ sym (decimal_digit (b - 48) (omega arith)))

  values_are : (line vs : List ℕ) → values_of size line ≡ Some vs → IsLine line vs
  values_are [] vs e = absurd cc
  values_are (b ∷ []) vs e = go (is_value size b) refl e
    where
      go : (t : Bool) → is_value size b ≡ t → (if t then Some ((b - 48) ∷ []) else None) ≡ Some vs → IsLine (b ∷ []) vs
      go true q e =
          let same : (b - 48) ∷ [] ≡ vs = cc in
          let d = value_digit b q in
          subst (IsLine (b ∷ [])) same (record { some = omega arith; values = (d.0, tt); is = d.1 ∙ sym (append-nil (decimal (b - 48))) })
      go false q e = absurd cc
  values_are (b ∷ c ∷ bs) vs e = go (is_value size b && (c == 32)) refl e (values_are bs)
    where
      longer : (ws : List ℕ) → (is_value size b && (c == 32)) ≡ true → IsLine bs ws → IsLine (b ∷ c ∷ bs) ((b - 48) ∷ ws)
      longer [] q l = absurd (omega (arith, l.some))
      longer (w ∷ ws) q l =
          let d = value_digit b (and_left (is_value size b) _ q) in
          let space : c ≡ 32 = eqb-true c 32 (and_right (is_value size b) _ q) in
          record { some = omega arith; values = (d.0, l.values); is = ap₂ (λ x xs. b ∷ x ∷ xs) space l.is ∙ ap (λ (x : List ℕ). x ++ spaced (w ∷ ws)) d.1 }

      by_rest : (o : Option (List ℕ)) → values_of size bs ≡ o → with_value size b o ≡ Some vs → ((ws : List ℕ) → values_of size bs ≡ Some ws → IsLine bs ws) → (is_value size b && (c == 32)) ≡ true → IsLine (b ∷ c ∷ bs) vs
      by_rest None q e later k = absurd cc
      by_rest (Some ws) q e later k = let same : (b - 48) ∷ ws ≡ vs = cc in subst (IsLine (b ∷ c ∷ bs)) same (longer ws k (later ws q))

      go : (t : Bool) → (is_value size b && (c == 32)) ≡ t → (if t then with_value size b (values_of size bs) else None) ≡ Some vs → ((ws : List ℕ) → values_of size bs ≡ Some ws → IsLine bs ws) → IsLine (b ∷ c ∷ bs) vs
      go true q e later = by_rest (values_of size bs) refl e later q
      go false q e later = absurd cc

  row_is : (count : ℕ) (line row : List ℕ) → row_of size count line ≡ Some row → IsRow size count row × (line ≡ values_line row)
  row_is count line row e = go (values_of size line) refl e
    where
      by_test : (vs : List ℕ) → IsLine line vs → (t : Bool) → (length vs == count) ≡ t → (if t then Some vs else None) ≡ Some row → IsRow size count row × (line ≡ values_line row)
      by_test vs l true q e =
          let same : vs ≡ row = cc in
          subst (λ (xs : List ℕ). IsRow size count xs × (line ≡ values_line xs)) same (record { as_many = eqb-true (length vs) count q; values = l.values }, l.is)
      by_test vs l false q e = absurd cc

      go : (o : Option (List ℕ)) → values_of size line ≡ o → checked_count size count o ≡ Some row → IsRow size count row × (line ≡ values_line row)
      go None q e = absurd cc
      go (Some vs) q e = by_test vs (values_are line vs q) (length vs == count) refl e

-- an outcome behind another
go_on_gets : {V W : Type 0} (o : Outcome V) (next : V → ℕ → List ℕ → Outcome W) (w : W) (m : ℕ) (rest : List ℕ) → go_on o next ≡ gets w m rest → (v : V) × (k : ℕ) × (middle : List ℕ) × (o ≡ gets v k middle) × (next v k middle ≡ gets w m rest)
go_on_gets (gets v k middle) next w m rest e = (v, k, middle, refl, e)
go_on_gets (fails fault) next w m rest e = absurd cc

limited_gets : (cells n m : ℕ) (rest : List ℕ) (o : Outcome (Unit {0})) → limited cells n o ≡ gets (tt {0}) m rest → o ≡ gets (tt {0}) m rest
limited_gets cells n m rest (gets u k r) e = go (nat_lt MOST_CELLS cells) e
  where
    go : (t : Bool) → (if t then fails (TooManyCells (place_in n 0)) else gets u k r) ≡ gets (tt {0}) m rest → gets u k r ≡ gets (tt {0}) m rest
    go true e = absurd cc
    go false e = e
limited_gets cells n m rest (fails fault) e = absurd cc

module _ (symbols : SymbolTable) (size : ℕ) (most : size ≤ 8) where
  -- the two lines of a symbol
  record HasRow (f : Sym) (row : List ℕ) (text rest : List ℕ) : Type 0 where
    row_of_symbol : IsRow size (cell_count symbols size f) row
    is : text ≡ ended (symbol_line symbols f) ++ (ended (values_line row) ++ rest)

  has_row : (cells : ℕ) (f : Sym) (n m : ℕ) (text rest row : List ℕ) → row_at symbols size cells f n text ≡ gets row m rest → HasRow f row text rest
  has_row cells f n m text rest row e =
      let parts = go_on_gets (symbol_at symbols size (cells + cell_count symbols size f) f n text) (λ _. pick (row_of size (cell_count symbols size f))) row m rest e in
      let first : exactly (symbol_line symbols f) n text ≡ gets (tt {0}) parts.1 parts.2 = limited_gets (cells + cell_count symbols size f) n parts.1 parts.2 (exactly (symbol_line symbols f) n text) parts.3 in
      let line : HasLine (row_of size (cell_count symbols size f)) row parts.2 rest = picks (row_of size (cell_count symbols size f)) parts.1 m parts.2 rest row parts.4 in
      let is_row : IsRow size (cell_count symbols size f) row × (line.line ≡ values_line row) = row_is size most (cell_count symbols size f) line.line row line.value in
      record {
        row_of_symbol = is_row.0;
        is = exactly_is (symbol_line symbols f) n parts.1 text parts.2 first ∙ ap (λ r. ended (symbol_line symbols f) ++ r) (line.is ∙ ap (λ l. ended l ++ rest) is_row.1);
      }

  -- the rows of these symbols, behind others
  record HasRows (fs : List Sym) (rows all : List (List ℕ)) (text rest : List ℕ) : Type 0 where
    more : List (List ℕ)
    all_is : all ≡ rows ++ more
    are : AreRows symbols size fs more
    is : text ≡ rows_text symbols fs more ++ rest

  has_rows : (fs : List Sym) (rows all : List (List ℕ)) (n m : ℕ) (text rest : List ℕ) → rows_after symbols size rows fs n text ≡ gets all m rest → HasRows fs rows all text rest
  has_rows [] rows all n m text rest e =
      let same : rows ≡ all = cc in
      let tail : text ≡ rest = cc in
      record { more = []; all_is = sym same ∙ sym (append-nil rows); are = tt; is = tail }
  has_rows (f ∷ fs) rows all n m text rest e =
      let parts = go_on_gets (row_at symbols size (cells_in rows) f n text) (λ row. rows_after symbols size (rows ++ row ∷ []) fs) all m rest e in
      let row : HasRow f parts.0 text parts.2 = has_row (cells_in rows) f n parts.1 text parts.2 parts.0 parts.3 in
      let later : HasRows fs (rows ++ parts.0 ∷ []) all parts.2 rest = has_rows fs (rows ++ parts.0 ∷ []) all parts.1 m parts.2 rest parts.4 in
      record {
        more = parts.0 ∷ later.more;
        all_is = later.all_is ∙ append_assoc rows (parts.0 ∷ []) later.more;
        are = (row.row_of_symbol, later.are);
        is = row.is ∙ ap (λ r. ended (symbol_line symbols f) ++ (ended (values_line parts.0) ++ r)) later.is ∙ three_parts (ended (symbol_line symbols f)) (ended (values_line parts.0)) (rows_text symbols fs later.more) rest;
      }
    where
      three_parts : (a b c d : List ℕ) → a ++ (b ++ (c ++ d)) ≡ a ++ b ++ c ++ d
      three_parts a b c d = simp append_assoc

-- the lines of a table
module _ (symbols : SymbolTable) (signature : List Sym) where
  record HasTable (table : Table) (text rest : List ℕ) : Type 0 where
    is_table : IsTableOf symbols signature table
    is : text ≡ table_text symbols table ++ rest

  four_parts : (a b c d r : List ℕ) → a ++ (b ++ (c ++ (d ++ r))) ≡ a ++ b ++ c ++ d ++ r
  four_parts a b c d r = simp append_assoc

  has_parts : (size : ℕ) (rows more : List (List ℕ)) (text first second third last rest : List ℕ) → 1 ≤ size → size ≤ 8 → rows ≡ more → AreRows symbols size signature more → text ≡ ended table_line ++ first → first ≡ ended (size_line size) ++ second → second ≡ rows_text symbols signature more ++ third → third ≡ ended end_line ++ last → last ≡ rest → HasTable (table_by symbols signature size rows) text rest
  has_parts size rows more text first second third last rest some most made are a b c d e = record {
    is_table = record { some = some; most = most; symbols_are = refl; rows = subst (AreRows symbols size signature) (sym made) are };
    is = a ∙ ap (λ r. ended table_line ++ r) (b ∙ ap (λ r. ended (size_line size) ++ r) (c ∙ ap₂ (λ rs r. rows_text symbols signature rs ++ r) (sym made) (d ∙ ap (λ r. ended end_line ++ r) e)))
        ∙ four_parts (ended table_line) (ended (size_line size)) (rows_text symbols signature rows) (ended end_line) rest;
  }

  -- what the lines behind the size come to
  after_size : ℕ → ℕ → List ℕ → Outcome Table
  after_size size n text = (rows_after symbols size [] signature >>= λ rows. exactly end_line >>= λ _. gives (table_by symbols signature size rows)) n text

  given_table : (a b : Table) (k m : ℕ) (r s : List ℕ) → gets a k r ≡ gets b m s → (a ≡ b) × (r ≡ s)
  given_table a b k m r s e = let one : a ≡ b = cc in let two : r ≡ s = cc in (one, two)

  has_body : (size : ℕ) (table : Table) (n m : ℕ) (text first second rest : List ℕ) → 1 ≤ size → size ≤ 8 → text ≡ ended table_line ++ first → first ≡ ended (size_line size) ++ second → after_size size n second ≡ gets table m rest → HasTable table text rest
  unfolding after_size
  has_body size table n m text first second rest some most a b e =
      let rows = go_on_gets (rows_after symbols size [] signature n second) (λ rows. exactly end_line >>= λ _. gives (table_by symbols signature size rows)) table m rest e in
      let all : HasRows symbols size most signature [] rows.0 second rows.2 = has_rows symbols size most signature [] rows.0 n rows.1 second rows.2 rows.3 in
      let last = go_on_gets (exactly end_line rows.1 rows.2) (λ _. gives (table_by symbols signature size rows.0)) table m rest rows.4 in
      let same = given_table (table_by symbols signature size rows.0) table last.1 m last.2 rest last.4 in
      subst (λ (t : Table). HasTable t text rest) {x = table_by symbols signature size rows.0} same.0
      (has_parts size rows.0 all.more text first second rows.2 last.2 rest some most all.all_is all.are a b all.is (exactly_is end_line rows.1 last.1 rows.2 last.2 last.3) same.1)

  has_table : (table : Table) (n m : ℕ) (text rest : List ℕ) → table_lines symbols signature n text ≡ gets table m rest → HasTable table text rest
  unfolding after_size
  has_table table n m text rest e =
      let header = go_on_gets (header_lines n text) after_size table m rest e in
      let version = go_on_gets (version_line n text) (λ _. pick size_of) header.0 header.1 header.2 header.3 in
      let sized : HasLine size_of header.0 version.2 header.2 = picks size_of version.1 header.1 version.2 header.2 header.0 version.4 in
      let size : IsSize sized.line header.0 = size_is sized.line header.0 sized.value in
      has_body header.0 table header.1 m text version.2 header.2 rest size.some size.most (version_is n version.1 text version.2 version.3) (sized.is ∙ ap (λ l. ended l ++ header.2) size.is) header.4

  -- a text that is read
  pub is_canonical : (table : Table) (text : List ℕ) → table_of symbols signature text ≡ Ok table → IsTableOf symbols signature table × (text ≡ table_text symbols table)
  is_canonical table text e = by_length (nat_lt 16777216 (length text)) e
    where
      by_end : (o : Outcome Table) → table_lines symbols signature 1 text ≡ o → ends symbols signature o ≡ Ok table → IsTableOf symbols signature table × (text ≡ table_text symbols table)
      by_end (gets t m []) q e =
          let same : t ≡ table = cc in
          let h : HasTable t text [] = has_table t 1 m text [] q in
          subst (λ (x : Table). IsTableOf symbols signature x × (text ≡ table_text symbols x)) same (h.is_table, h.is ∙ append-nil (table_text symbols t))
      by_end (gets t m (b ∷ bs)) q e = absurd cc
      by_end (fails fault) q e = absurd cc

      by_length : (t : Bool) → (if t then Err (TooManyBytes (place_in 1 0)) else ends symbols signature (table_lines symbols signature 1 text)) ≡ Ok table → IsTableOf symbols signature table × (text ≡ table_text symbols table)
      by_length true e = absurd cc
      by_length false e = by_end (table_lines symbols signature 1 text) refl e
