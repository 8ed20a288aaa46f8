-- A prefix is refuted exactly where an instance of a clause's form is against it.
use Rattle.std.proofs.Common.{◌≡◌, ℕ, zero, suc, ◌/◌, ◌^◌, ◌≤◌, ◌<◌, List, [], ◌∷◌, length, refl, ap, sym, ◌∙◌, arith, subst}
use Rattle.std.specs.Prelude.{slice_get, Option, Some}
use Rattle.std.proofs.Math.Nat.{mod-lt}
use Rattle.std.proofs.lemmas.Option.{slice_get_within}
use Rattle.uc_term.specs.declared.node.Sym.{Sym}
use Rattle.uc_term.specs.Tree.{Tree, var, app, Trees, none, more}
use Rattle.uc_term.specs.Table.{Table as SymbolTable}
use Rattle.uc_clause.specs.declared.clause.Sourced.{Sourced}
use Rattle.uc_check.specs.Clauses.{equation_of}
use Rattle.uc_table.specs.declared.search_instances.Form.{Form}
use Rattle.uc_table.specs.Checks.{variables_in, variables_in_all, variable_count}
use Rattle.uc_table.specs.SearchCells.{behind_some, cell_in, fixed_by, all_fixed_by, AreAgainst, IsRefuted}
use Rattle.uc_table.specs.SearchSteps.{run}
use Rattle.uc_table.specs.SearchForms.{AreFormsOf, IsFormOf}
use Rattle.uc_table.specs.SearchInstances.{IsRefutedBy}
use Rattle.uc_table.proofs.SearchMeaning.{digit, both_run, run_both}
use Rattle.uc_table.proofs.SearchDigits.{number_of, number_within, digit_is}

-- what is fixed rests on the values of a term's variables alone
module _ (cell : Sym → List ℕ → Option ℕ) (α β : ℕ → ℕ) (n : ℕ) (same : (x : ℕ) → x < n → α x ≡ β x) where
  mutual
    pub fixed_same : (t : Tree) → variables_in t ≤ n → fixed_by cell α t ≡ fixed_by cell β t
    fixed_same (var x) h = ap Some (same x (omega arith))
    fixed_same (app f ts) h = ap (λ o. behind_some o (cell f)) (all_fixed_same ts h)

    all_fixed_same : (ts : Trees) → variables_in_all ts ≤ n → all_fixed_by cell α ts ≡ all_fixed_by cell β ts
    all_fixed_same none h = refl
    all_fixed_same (more t ts) h =
        ap (λ o. behind_some o (λ v. behind_some (all_fixed_by cell α ts) (λ vs. Some (v ∷ vs)))) (fixed_same t (omega arith)) ∙
        ap (λ p. behind_some (fixed_by cell β t) (λ v. behind_some p (λ vs. Some (v ∷ vs)))) (all_fixed_same ts (omega arith))

module _ (symbols : SymbolTable) (signature : List Sym) (clauses : List Sourced) (size : ℕ) (forms : List Form) (some : 0 < size) (are : AreFormsOf symbols size signature clauses forms) where
  pub find : {A : Type 0} (xs : List A) (k : ℕ) → k < length xs → (x : A) × (slice_get xs k ≡ Some x)
  find [] k l = absurd (omega arith)
  find (x ∷ xs) zero l = (x, refl)
  find (x ∷ xs) (suc k) l = find xs k (omega arith)

  pub to_forms : (p : List ℕ) → IsRefuted symbols signature clauses size p → IsRefutedBy size p forms
  to_forms p h =
      let w : h.number < length clauses = slice_get_within clauses h.number h.clause h.clause_is in
      let m : length forms ≡ length clauses = are.as_many in
      let g = find forms h.number (omega arith) in
      made g.0 g.1 (are.each h.number h.clause g.0 h.clause_is g.1)
    where
      n : ℕ
      n = variable_count (equation_of h.clause.clause)

      made : (f : Form) → slice_get forms h.number ≡ Some f → IsFormOf symbols size signature h.clause.clause f → IsRefutedBy size p forms
      made f g i =
          let k : ℕ = number_of size h.α (variable_count (equation_of h.clause.clause)) in
          let same : (x : ℕ) → x < variable_count (equation_of h.clause.clause) → h.α x ≡ digit symbols size signature p (number_of size h.α (variable_count (equation_of h.clause.clause))) x = λ x l. sym (digit_is size h.α (variable_count (equation_of h.clause.clause)) x some h.assigns l) in
          let a = fixed_same (cell_in symbols size signature p) h.α (digit symbols size signature p (number_of size h.α (variable_count (equation_of h.clause.clause)))) (variable_count (equation_of h.clause.clause)) same h.clause.clause.left (omega arith) in
          let b = fixed_same (cell_in symbols size signature p) h.α (digit symbols size signature p (number_of size h.α (variable_count (equation_of h.clause.clause)))) (variable_count (equation_of h.clause.clause)) same h.clause.clause.right (omega arith) in
          let r = both_run symbols size signature p (number_of size h.α (variable_count (equation_of h.clause.clause))) h.clause.clause.right h.clause.clause.left h.right h.left (sym b ∙ h.right_is) (sym a ∙ h.left_is) in
          record {
            number = h.number;
            assignment = number_of size h.α (variable_count (equation_of h.clause.clause));
            form = f;
            form_is = g;
            small = subst (λ z. number_of size h.α (variable_count (equation_of h.clause.clause)) < z) (sym i.assignments) (number_within size h.α (variable_count (equation_of h.clause.clause)) some h.assigns);
            against = record {
              left = h.left;
              right = h.right;
              ran_is = ap (λ ss. run size (number_of size h.α (variable_count (equation_of h.clause.clause))) p ss []) i.steps ∙ r;
              against = subst (λ b. AreAgainst b h.left h.right) (sym i.positive) h.against;
            };
          }

  pub from_forms : (p : List ℕ) → IsRefutedBy size p forms → IsRefuted symbols signature clauses size p
  from_forms p h =
      let w : h.number < length forms = slice_get_within forms h.number h.form h.form_is in
      let m : length forms ≡ length clauses = are.as_many in
      let g = find clauses h.number (omega arith) in
      made g.0 g.1 (are.each h.number g.0 h.form g.1 h.form_is)
    where
      made : (s : Sourced) → slice_get clauses h.number ≡ Some s → IsFormOf symbols size signature s.clause h.form → IsRefuted symbols signature clauses size p
      made s g i =
          let r = run_both symbols size signature p h.assignment s.clause.right s.clause.left h.against.right h.against.left (ap (λ ss. run size h.assignment p ss []) (sym i.steps) ∙ h.against.ran_is) in
          record {
            number = h.number;
            clause = s;
            clause_is = g;
            α = digit symbols size signature p h.assignment;
            assigns = λ x. mod-lt (h.assignment / size ^ x) some;
            left = h.against.left;
            right = h.against.right;
            left_is = r.1;
            right_is = r.0;
            against = subst (λ b. AreAgainst b h.against.left h.against.right) i.positive h.against.against;
          }
