-- A clause with a conjecture's constants in the place of its variables can be printed where the clause can.
use Rattle.std.proofs.Common.{ℕ, zero, suc, ◌≡◌, ◌<◌, ◌+◌, ◌==◌, ◌/◌, ◌%◌, Bool, true, false, List, [], ◌∷◌, ◌++◌, decimal, slice_get, Option, Some, None, if◌then◌else◌, refl, sym, ap, ap₂, ◌∙◌, subst, arith}
use Rattle.std.specs.Fmt.{digit_glyph, digits_onto, digits}
use Rattle.std.specs.List.{AllByRecursion, list_all}
use Rattle.std.proofs.lemmas.Bool.{and_from}
use Rattle.std.proofs.lemmas.Bool.Decides.{nat_tests}
use Rattle.std.proofs.lemmas.Option.{slice_get_within}
use Rattle.uc_term.specs.declared.node.Sym.{Sym}
use Rattle.uc_term.specs.Tree.{Tree, var, app, Trees, none, more, nodes, nodes_all, apply, apply_all}
use Rattle.uc_term.specs.Over.{AreOver}
use Rattle.uc_term.specs.Table.{Table, IsSymbol, arity_of}
use Rattle.uc_term.specs.Variables.{variables, variables_all}
use Rattle.uc_term.proofs.Joins.{count-apply_all}
use Rattle.uc_clause.specs.declared.token.Place.{Place}
use Rattle.uc_clause.specs.declared.clause.Clause.{Clause}
use Rattle.uc_clause.specs.Bytes.{between}
use Rattle.uc_clause.specs.Names.{IsSpellable}
use Rattle.uc_clause.specs.Printable.{IsPrintableSymbol, IsPrintable, IsPrintableClause}
use Rattle.uc_fof.specs.Constants.{constant_or_variable, constant_for}
use Rattle.uc_fact.proofs.Agreeing.{each_append}
use Rattle.uc_problem.specs.declared.flat.FlatClause.{FlatClause}
use Rattle.uc_problem.specs.Conjecture.{constant_name, AreNamed, no_constant, a_constant, closed, closed_if, closed_all}
use Rattle.uc_answer.specs.PrintableProblems.{IsSmallClause, ArePrintableSourced}
use Rattle.uc_answer.proofs.PrintableItems.{symbol_named}

-- NAMES

digit_seen : (d : ℕ) → d < 10 → between 32 126 (digit_glyph false d) ≡ true
digit_seen d h = grind (arith, nat_tests)

digits_seen : (k n : ℕ) (rest : List ℕ) → list_all (between 32 126) rest ≡ true → list_all (between 32 126) (digits_onto k 10 false n rest) ≡ true
digits_seen zero n rest h = h
digits_seen (suc k) n rest h = either (n / 10 == 0) (digit_glyph false (n % 10) ∷ rest) (digits_onto k 10 false (n / 10) (digit_glyph false (n % 10) ∷ rest)) one (digits_seen k (n / 10) (digit_glyph false (n % 10) ∷ rest) one)
  where
    one : list_all (between 32 126) (digit_glyph false (n % 10) ∷ rest) ≡ true
    one = and_from (between 32 126 (digit_glyph false (n % 10))) (list_all (between 32 126) rest) (digit_seen (n % 10) (omega arith)) h

    either : (b : Bool) (xs ys : List ℕ) → list_all (between 32 126) xs ≡ true → list_all (between 32 126) ys ≡ true → list_all (between 32 126) (if b then xs else ys) ≡ true
    either true xs ys p q = p
    either false xs ys p q = q

decimal_seen : (n : ℕ) → list_all (between 32 126) (decimal n) ≡ true
unfolding digits
decimal_seen n = digits_seen 64 n [] refl

constant_spellable : (n : ℕ) → IsSpellable (constant_name n)
constant_spellable n = (omega arith, decimal_seen n)

-- TERMS

split : {A : Type 0} (P : A → Type 0) (xs ys : List A) → AllByRecursion P (xs ++ ys) → AllByRecursion P xs × AllByRecursion P ys
split P [] ys h = (tt, h)
split P (x ∷ xs) ys h = let rest = split P xs ys h.1 in ((h.0, rest.0), rest.1)

module _ (table : Table) where
  -- a symbol that can be printed, without arguments
  abbrev IsConstant : Sym → Type 0
  IsConstant c = IsPrintableSymbol table c × (arity_of table c ≡ 0)

  constant_is : (c : Sym) (n : ℕ) → IsSymbol table c (constant_name n) 0 → IsConstant c
  constant_is c n s =
      let named = symbol_named table c (constant_name n) 0 s in
      ((slice_get_within table c.0 _ s, subst IsSpellable (sym named.0) (constant_spellable n), omega (arith, named.1)), named.1)

  are_constants : {ts : List Tree} {from : ℕ} {cs : List Sym} → AreNamed table ts from cs → AllByRecursion IsConstant cs
  are_constants no_constant = tt
  are_constants (a_constant {n = n} {c = c} later taken free is rest) = (constant_is c n is, are_constants rest)

  -- what stands for a variable: a constant, or itself
  data IsFor (x : ℕ) : Tree → Type 0 where
    is_constant : {c : Sym} → IsConstant c → IsFor x (app c none)
    is_itself : IsFor x (var x)

  module _ (cs : List Sym) (all : AllByRecursion IsConstant cs) where
    constant_at : (ds : List Sym) (x : ℕ) (c : Sym) → AllByRecursion IsConstant ds → slice_get ds x ≡ Some c → IsConstant c
    constant_at [] x c h e = absurd cc
    constant_at (d ∷ ds) zero c h e = let same : d ≡ c = cc in subst IsConstant same h.0
    constant_at (d ∷ ds) (suc x) c h e = constant_at ds x c h.1 e

    is_for : (x : ℕ) → IsFor x (constant_for cs x)
    is_for x = go (slice_get cs x) refl
      where
        go : (o : Option Sym) → slice_get cs x ≡ o → IsFor x (constant_or_variable x o)
        go (Some c) e = is_constant (constant_at cs x c all e)
        go None e = is_itself

    one_printable : {x : ℕ} {t : Tree} → IsFor x t → IsPrintable table t
    one_printable (is_constant c) = (c.0, sym c.1, tt)
    one_printable is_itself = tt

    one_node : {x : ℕ} {t : Tree} → IsFor x t → nodes t ≡ 1
    one_node (is_constant c) = refl
    one_node is_itself = refl

    mutual
      term_printable : (t : Tree) → IsPrintable table t → IsPrintable table (apply (constant_for cs) t)
      term_printable (var x) h = one_printable (is_for x)
      term_printable (app f ts) h = (h.0, count-apply_all (constant_for cs) ts ∙ h.1, terms_printable ts h.2)

      terms_printable : (ts : Trees) → AreOver (IsPrintableSymbol table) (arity_of table) (λ _. Unit {0}) ts → AreOver (IsPrintableSymbol table) (arity_of table) (λ _. Unit {0}) (apply_all (constant_for cs) ts)
      terms_printable none h = tt
      terms_printable (more t ts) h = (term_printable t h.0, terms_printable ts h.1)

    mutual
      term_nodes : (t : Tree) → nodes (apply (constant_for cs) t) ≡ nodes t
      term_nodes (var x) = one_node (is_for x)
      term_nodes (app f ts) = ap (λ n. n + 1) (terms_nodes ts)

      terms_nodes : (ts : Trees) → nodes_all (apply_all (constant_for cs) ts) ≡ nodes_all ts
      terms_nodes none = refl
      terms_nodes (more t ts) = ap₂ (λ a b. a + b) (term_nodes t) (terms_nodes ts)

    module _ (P : ℕ → Type 0) where
      one_variable : {x : ℕ} {t : Tree} → IsFor x t → P x → AllByRecursion P (variables t)
      one_variable (is_constant c) h = tt
      one_variable is_itself h = (h, tt)

      mutual
        term_variables : (t : Tree) → AllByRecursion P (variables t) → AllByRecursion P (variables (apply (constant_for cs) t))
        term_variables (var x) h = one_variable (is_for x) h.0
        term_variables (app f ts) h = terms_variables ts h

        terms_variables : (ts : Trees) → AllByRecursion P (variables_all ts) → AllByRecursion P (variables_all (apply_all (constant_for cs) ts))
        terms_variables none h = tt
        terms_variables (more t ts) h =
            let parts = split P (variables t) (variables_all ts) h in
            each_append P (variables (apply (constant_for cs) t)) (variables_all (apply_all (constant_for cs) ts)) (term_variables t parts.0) (terms_variables ts parts.1)

    -- CLAUSES

    clause_printable : (c : Clause) → IsPrintableClause table c → IsPrintableClause table (closed cs c)
    clause_printable c h = (h.0, term_printable c.left h.1, term_printable c.right h.2)

    clause_small : (c : Clause) → IsSmallClause c → IsSmallClause (closed cs c)
    clause_small c s = record {
      left = omega (arith, term_nodes c.left, s.left);
      right = omega (arith, term_nodes c.right, s.right);
      few_left = term_variables _ c.left s.few_left;
      few_right = term_variables _ c.right s.few_right;
    }

    closed_printable : (o : Option Place) (c : Clause) → IsPrintableClause table c × IsSmallClause c → IsPrintableClause table (closed_if cs o c) × IsSmallClause (closed_if cs o c)
    closed_printable None c h = h
    closed_printable (Some place) c h = (clause_printable c h.0, clause_small c h.1)

  -- a clause in flat order that can be printed, of terms that aren't too large, from a file whose name can be spelled
  abbrev pub IsPrintableFlat : FlatClause → Type 0
  IsPrintableFlat s = IsSpellable s.file × IsPrintableClause table s.clause × IsSmallClause s.clause

  abbrev pub ArePrintableFlats : List FlatClause → Type 0
  ArePrintableFlats flats = AllByRecursion IsPrintableFlat flats

  all_closed : (cs : List Sym) → AllByRecursion IsConstant cs → (flats : List FlatClause) → ArePrintableFlats flats → ArePrintableSourced table (closed_all cs flats)
  all_closed cs all [] h = tt
  all_closed cs all (s ∷ flats) h =
      let one = closed_printable cs all s.conjecture s.clause (h.0.1, h.0.2) in
      ((h.0.0, one.0, one.1), all_closed cs all flats h.1)

  pub closed_all_printable : (ts : List Tree) (from : ℕ) (cs : List Sym) → AreNamed table ts from cs → (flats : List FlatClause) → ArePrintableFlats flats → ArePrintableSourced table (closed_all cs flats)
  closed_all_printable ts from cs named flats h = all_closed cs (are_constants named) flats h
