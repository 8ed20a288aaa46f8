-- The rows of a table, cut from its cells.
use Rattle.std.proofs.Common.{◌≡◌, ℕ, ◌+◌, ◌^◌, ◌≤◌, ◌<◌, List, [], ◌∷◌, ◌++◌, length, take, drop, get_or, ap, sym, ◌∙◌, arith, subst, append-nil, add-one}
use Rattle.std.specs.List.{concat}
use Rattle.std.proofs.lemmas.Grind.{common_steps}
use Rattle.std.proofs.lemmas.List.Folds.{concat-append}
use Rattle.std.proofs.Math.Seq.{take-suc, take-add}
use Rattle.std.proofs.Math.Nat.{one-le-pow}
use Rattle.uc_term.specs.declared.node.Sym.{Sym}
use Rattle.uc_term.specs.Table.{Table as SymbolTable, arity_of}
use Rattle.uc_term.specs.declared.signature.Signature.{Signature}
use Rattle.uc_term.specs.Signatures.{Completes, has_constant, gets_constant}
use Rattle.uc_table.specs.Tables.{AreValues, IsRow, AreRows, cell_count, cells_for}
use Rattle.uc_table.proofs.Lists.{taken, dropped}
use Rattle.uc_table.proofs.SearchLayouts.{next_cells}
use Rattle.std.proofs.Common.{length-append}

rows_snoc : (symbols : SymbolTable) (size : ℕ) (fs : List Sym) (f : Sym) (rows : List (List ℕ)) (row : List ℕ) → AreRows symbols size fs rows → IsRow size (cell_count symbols size f) row → AreRows symbols size (fs ++ f ∷ []) (rows ++ row ∷ [])
rows_snoc symbols size [] f [] row a r = (r, tt)
rows_snoc symbols size [] f (x ∷ rows) row a r = absurd a
rows_snoc symbols size (g ∷ fs) f [] row a r = absurd a
rows_snoc symbols size (g ∷ fs) f (x ∷ rows) row a r = (a.0, rows_snoc symbols size fs f rows row a.1 r)

-- one row more
pub record OneRow (symbols : SymbolTable) (size : ℕ) (fs : List Sym) (values : List ℕ) (i from to : ℕ) (rows new : List (List ℕ)) : Type 0 where
  pub from_is : to ≡ cells_for symbols size (take (i + 1) fs)
  pub rows_are : AreRows symbols size (take (i + 1) fs) new
  pub cells_are : concat new ≡ take to values

pub one_row : (symbols : SymbolTable) (size : ℕ) (fs : List Sym) (values : List ℕ) (i a count from : ℕ) (d : Sym) (rows new : List (List ℕ)) (row : List ℕ) → i < length fs → a ≡ arity_of symbols (get_or fs i d) → count ≡ size ^ a → from ≡ cells_for symbols size (take i fs) → AreRows symbols size (take i fs) rows → concat rows ≡ take from values → length values ≡ cells_for symbols size fs → AreValues size values → row ≡ take count (drop from values) → new ≡ rows ++ row ∷ [] → OneRow symbols size fs values i from (from + count) rows new
one_row symbols size fs values i a count from d rows new row l e c f r k n v w x =
    let s = next_cells symbols size fs i a d l e in
    let b : from + count ≤ length values = omega (arith, s.1) in
    let as_many : length row ≡ count = ap length w ∙ taken_length values from count b in
    let same : count ≡ cell_count symbols size (get_or fs i d) = c ∙ ap (λ z. size ^ z) e in
    let t : take (i + 1) fs ≡ take i fs ++ get_or fs i d ∷ [] = ap (λ z. take z fs) (add-one i) ∙ take-suc fs i d l in
    let g : AreRows symbols size (take i fs ++ get_or fs i d ∷ []) (rows ++ row ∷ []) = rows_snoc symbols size (take i fs) (get_or fs i d) rows row r (record { as_many = as_many ∙ same; values = subst (AreValues size) (sym w) (taken size count (drop from values) (dropped size from values v)) }) in
    record {
      from_is = omega (arith, s.0);
      rows_are = subst (λ z. AreRows symbols size z new) (sym t) (subst (λ z. AreRows symbols size (take i fs ++ get_or fs i d ∷ []) z) (sym x) g);
      cells_are = ap concat x ∙ concat-append rows (row ∷ []) ∙ ap (λ z. concat rows ++ z) (append-nil row) ∙ ap (λ z. z ++ row) k ∙ ap (λ z. take from values ++ z) w ∙ sym (take-add from count values);
    }
  where
    taken_length : (xs : List ℕ) (m n : ℕ) → m + n ≤ length xs → length (take n (drop m xs)) ≡ n
    taken_length xs m n h = grind (arith, common_steps)

pub some_cells : (symbols : SymbolTable) (size : ℕ) (fs : List Sym) → 1 ≤ size → 0 < length fs → 0 < cells_for symbols size fs
some_cells symbols size [] s l = absurd (omega arith)
some_cells symbols size (f ∷ fs) s l = let p : 1 ≤ size ^ arity_of symbols f = one-le-pow (arity_of symbols f) size s in omega arith

pub some_symbol : (symbols : SymbolTable) (fs : List Sym) (signature : Signature) → Completes symbols fs signature → 0 < length signature.symbols
some_symbol symbols [] _ (has_constant e) = cc
some_symbol symbols (f ∷ fs) _ (has_constant e) = omega arith
some_symbol symbols fs _ (gets_constant {c = c} e h) = let n : length (fs ++ c ∷ []) ≡ length fs + 1 = length-append fs (c ∷ []) in omega arith

pub row_bound : (symbols : SymbolTable) (size : ℕ) (fs : List Sym) (values : List ℕ) (i a count from : ℕ) (d : Sym) → i < length fs → a ≡ arity_of symbols (get_or fs i d) → count ≡ size ^ a → from ≡ cells_for symbols size (take i fs) → length values ≡ cells_for symbols size fs → from + count ≤ length values
row_bound symbols size fs values i a count from d l e c f n = let s = next_cells symbols size fs i a d l e in omega (arith, s.1)
