-- What is printed of names, terms and facts stands in one line.
use Rattle.std.proofs.Common.{◌≡◌, ℕ, ◌+◌, ◌<◌, ◌^◌, ◌==◌, ◌||◌, Bool, true, false, List, [], ◌∷◌, ◌++◌, refl, arith, decimal}
use Rattle.std.specs.Prelude.{codes}
use Rattle.std.specs.List.{list_all}
use Rattle.std.proofs.lemmas.Bool.Decides.{nat_tests}
use Rattle.uc_term.specs.declared.equation.Equation.{Equation}
use Rattle.uc_term.specs.Tree.{Tree, var, app, Trees, none, more}
use Rattle.uc_term.specs.Over.{AreOver}
use Rattle.uc_term.specs.Table.{Table, name_of, arity_of}
use Rattle.uc_clause.specs.Bytes.{between, is_name, in_line}
use Rattle.uc_clause.specs.Names.{IsSpellable, spelling, escaped}
use Rattle.uc_clause.specs.Printing.{term_text, args_text, rest_text, sign_text, equation_text}
use Rattle.uc_clause.specs.Printable.{IsPrintableSymbol, IsNumbered}
use Rattle.uc_clause.proofs.Printed.{IsReadable}
use Rattle.uc_system.specs.Facts.{fact_front, fact_end, fact_line}
use Rattle.uc_system.proofs.Splits.{and_left, and_right, and_both}
use Rattle.uc_system.proofs.Decimals.{all_append, decimal_in_line}

abbrev pub InLine : List ℕ → Type 0
InLine text = list_all in_line text ≡ true

visible_in_line : (b : ℕ) → between 32 126 b ≡ true → in_line b ≡ true
visible_in_line b h = grind (arith, nat_tests)

word_in_line : (w : List ℕ) → list_all (between 32 126) w ≡ true → InLine w
word_in_line [] h = refl
word_in_line (b ∷ bs) h = and_both (in_line b) _ (visible_in_line b (and_left (between 32 126 b) _ h)) (word_in_line bs (and_right (between 32 126 b) _ h))

escaped_by : (b : ℕ) (bs : List ℕ) (t : Bool) → (b == 92 || b == 39) ≡ t → in_line b ≡ true → InLine (escaped bs) → InLine (escaped (b ∷ bs))
escaped_by b bs true e here rest = rw e (and_both (in_line b) _ here rest)
escaped_by b bs false e here rest = rw e (and_both (in_line b) _ here rest)

escaped_in_line : (w : List ℕ) → list_all (between 32 126) w ≡ true → InLine (escaped w)
escaped_in_line [] h = refl
escaped_in_line (b ∷ bs) h = escaped_by b bs (b == 92 || b == 39) refl (visible_in_line b (and_left (between 32 126 b) _ h)) (escaped_in_line bs (and_right (between 32 126 b) _ h))

pub spelling_in_line : (w : List ℕ) → IsSpellable w → InLine (spelling w)
spelling_in_line w s = by_name (is_name w) refl
  where
    by_name : (t : Bool) → is_name w ≡ t → InLine (spelling w)
    by_name true e = rw e (word_in_line w s.1)
    by_name false e = rw e (all_append in_line (escaped w) (39 ∷ []) (escaped_in_line w s.1) refl)

module _ (table : Table) where
  mutual
    pub term_in_line : (t : Tree) → IsReadable table t → InLine (term_text table t)
    term_in_line (var n) h = decimal_in_line (n + 1) (omega arith)
    term_in_line (app f ts) h = all_append in_line (spelling (name_of table f)) (args_text table ts) (spelling_in_line (name_of table f) h.0.1) (args_in_line ts h.2)

    args_in_line : (ts : Trees) → AreOver (IsPrintableSymbol table) (arity_of table) IsNumbered ts → InLine (args_text table ts)
    args_in_line none h = refl
    args_in_line (more t ts) h = all_append in_line (term_text table t) (rest_text table ts) (term_in_line t h.0) (rest_in_line ts h.1)

    rest_in_line : (ts : Trees) → AreOver (IsPrintableSymbol table) (arity_of table) IsNumbered ts → InLine (rest_text table ts)
    rest_in_line none h = refl
    rest_in_line (more t ts) h = all_append in_line (term_text table t) (rest_text table ts) (term_in_line t h.0) (rest_in_line ts h.1)

  pub fact_in_line : (k : ℕ) (e : Equation) → k < 2 ^ 64 → IsReadable table e.left → IsReadable table e.right → InLine (fact_line table k e)
  fact_in_line k e small left right =
      all_append in_line (fact_front k ++ equation_text table true e.left e.right) fact_end
      (all_append in_line (fact_front k) (equation_text table true e.left e.right)
      (all_append in_line (codes "cnf(s" ++ decimal k) (codes ", plain, ") (all_append in_line (codes "cnf(s") (decimal k) refl (decimal_in_line k small)) refl)
      (all_append in_line (term_text table e.left ++ sign_text true) (term_text table e.right) (all_append in_line (term_text table e.left) (sign_text true) (term_in_line e.left left) refl) (term_in_line e.right right)))
      refl
