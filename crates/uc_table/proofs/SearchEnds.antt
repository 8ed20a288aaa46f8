-- What the end of a search of the forms says of the clauses.
use Rattle.std.proofs.Common.{◌≡◌, ℕ, ◌+◌, ◌^◌, ◌≤◌, ◌<◌, List, [], ◌∷◌, ◌++◌, length, take, get_or, refl, ap, sym, ◌∙◌, arith, subst, Bool, true, false, ◌==◌, if◌then◌else◌}
use Rattle.std.specs.Prelude.{slice_get, Option, Some, None}
use Rattle.std.proofs.Math.Nat.{one-le-pow}
use Rattle.std.proofs.lemmas.Bool.{eqb-true}
use Rattle.std.proofs.lemmas.Option.{slice_get_within}
use Rattle.std.proofs.lemmas.Grind.{common_steps}
use Rattle.uc_term.specs.declared.node.Sym.{Sym}
use Rattle.uc_term.specs.declared.node.Node.{Node}
use Rattle.uc_term.specs.declared.node.Node.TheVariants.{Var, App}
use Rattle.uc_term.specs.Flat.{flat}
use Rattle.uc_term.specs.Table.{Table as SymbolTable, arity_of}
use Rattle.uc_clause.specs.declared.clause.Sourced.{Sourced}
use Rattle.uc_table.specs.declared.table.Table.{Table}
use Rattle.uc_table.specs.declared.search_steps.Step.{Step}
use Rattle.uc_table.specs.declared.search_steps.Step.TheVariants.{Foreign}
use Rattle.uc_table.specs.declared.search_instances.Form.{Form}
use Rattle.uc_table.specs.declared.search_size.Rules.{Rules}
use Rattle.uc_table.specs.Tables.{cells_for, MOST_CELLS}
use Rattle.uc_table.specs.SearchCells.{first_cell, IsRefuted}
use Rattle.uc_table.specs.SearchSteps.{AreSteps, IsStep}
use Rattle.uc_table.specs.SearchReads.{AreReadsOf}
use Rattle.uc_table.specs.SearchForms.{AreFirsts, AreFormsOf, IsFormOf, step_of, steps_of, applied}
use Rattle.uc_table.specs.SearchPrefixes.{IsOpen, IsVisited, AreFirst, AreAll}
use Rattle.uc_table.specs.SearchState.{IsRefutedIn, EndsFound, EndsNone, EndsSpent}
use Rattle.uc_table.specs.Searching.{Holds, IsWithin}
use Rattle.uc_table.specs.SearchSizes.{FindsAt, NoneAt, SpentAt}
use Rattle.uc_table.proofs.SearchLayouts.{first_within}
use Rattle.uc_table.proofs.SearchRefuting.{to_forms, from_forms, find}
use Rattle.uc_table.proofs.SearchMoved.{open_moved, visited_moved, all_moved, first_moved, open_back}

pub steps_both : (size : ℕ) (xs ys : List Step) → AreSteps size xs → AreSteps size ys → AreSteps size (xs ++ ys)
steps_both size [] ys a b = b
steps_both size (x ∷ xs) ys a b = (a.0, steps_both size xs ys a.1 b)

module _ (symbols : SymbolTable) (size : ℕ) (signature : List Sym) (some : 1 ≤ size) (few : cells_for symbols size signature ≤ MOST_CELLS) where
  applied_fits : (f : Sym) (n : ℕ) (b : Bool) → (n == arity_of symbols f) ≡ b → (o : Option ℕ) → first_cell symbols size signature f ≡ o → IsStep size (if b then applied symbols size signature o n else Foreign)
  applied_fits f n false e o d = tt
  applied_fits f n true e None d = tt
  applied_fits f n true e (Some k) d =
      let l : k + size ^ arity_of symbols f ≤ cells_for symbols size signature = first_within symbols size signature f k d in
      let m : n ≡ arity_of symbols f = eqb-true n (arity_of symbols f) e in
      subst (λ z. k + size ^ z ≤ MOST_CELLS) (sym m) (omega arith)

  step_fits : (n : Node) → IsStep size (step_of symbols size signature n)
  step_fits (Var x) = one-le-pow x size some
  step_fits (App f n) = applied_fits f n (n == arity_of symbols f) refl (first_cell symbols size signature f) refl

  pub steps_fit : (ns : List Node) → AreSteps size (steps_of symbols size signature ns)
  steps_fit [] = tt
  steps_fit (n ∷ ns) = steps_both size (steps_of symbols size signature ns) (step_of symbols size signature n ∷ []) (steps_fit ns) (step_fits n, tt)

  pub form_steps : (clauses : List Sourced) (forms : List Form) → AreFormsOf symbols size signature clauses forms → (k : ℕ) (f : Form) → slice_get forms k ≡ Some f → AreSteps size f.steps.items × AreReadsOf size f.steps.items f.reads
  form_steps clauses forms a k f g =
      let w : k < length forms = slice_get_within forms k f g in
      let m : length forms ≡ length clauses = a.as_many in
      let s = find symbols signature clauses size forms some a clauses k (omega arith) in
      let i : IsFormOf symbols size signature s.0.clause f = a.each k s.0 f s.1 g in
      (subst (AreSteps size) (sym i.steps) (steps_both size (steps_of symbols size signature (flat s.0.clause.left)) (steps_of symbols size signature (flat s.0.clause.right)) (steps_fit (flat s.0.clause.left)) (steps_fit (flat s.0.clause.right))), i.reads)

pub all_cells : (symbols : SymbolTable) (size : ℕ) (signature : List Sym) (firsts : List ℕ) → AreFirsts symbols size signature firsts → get_or firsts (length signature) 0 ≡ cells_for symbols size signature
all_cells symbols size signature firsts a = a.each (length signature) (omega arith) ∙ ap (cells_for symbols size) (whole signature)
  where
    whole : (xs : List Sym) → take (length xs) xs ≡ xs
    whole xs = grind (arith, common_steps)

module _ (symbols : SymbolTable) (signature : List Sym) (clauses : List Sourced) (rules : Rules) (some : 0 < rules.size) (are : AreFormsOf symbols rules.size signature clauses rules.forms.items) (cells_is : rules.cells ≡ cells_for symbols rules.size signature) (within : IsWithin symbols signature clauses rules.size) (budget : ℕ) where
  to : (p : List ℕ) → IsRefutedIn rules p → IsRefuted symbols signature clauses rules.size p
  to = from_forms symbols signature clauses rules.size rules.forms.items some are

  from : (p : List ℕ) → IsRefuted symbols signature clauses rules.size p → IsRefutedIn rules p
  from = to_forms symbols signature clauses rules.size rules.forms.items some are

  pub found_at : (cells : List ℕ) (count : ℕ) (table : Table) → EndsFound rules budget cells count → Holds symbols signature rules.size cells table → FindsAt symbols signature clauses rules.size budget table
  found_at cells count table e h = record {
    within = within;
    ps = e.ps;
    cells = cells;
    all = subst (λ n. AreAll rules.size n (IsRefuted symbols signature clauses rules.size) (e.ps ++ cells ∷ [])) cells_is (all_moved rules.size rules.cells (IsRefutedIn rules) (IsRefuted symbols signature clauses rules.size) to from (e.ps ++ cells ∷ []) e.all);
    open_is = subst (λ n. IsOpen rules.size n (IsRefuted symbols signature clauses rules.size) cells) cells_is (open_moved rules.size rules.cells (IsRefutedIn rules) (IsRefuted symbols signature clauses rules.size) to from cells e.open_is);
    few = (let c : count ≡ length (e.ps ++ cells ∷ []) = e.count_is in let w : count ≤ budget = e.within in omega arith);
    holds = h;
  }

  pub none_at : (count : ℕ) → EndsNone rules budget count → NoneAt symbols signature clauses rules.size budget count
  none_at count e = record {
    within = within;
    ps = e.ps;
    all = subst (λ n. AreAll rules.size n (IsRefuted symbols signature clauses rules.size) e.ps) cells_is (all_moved rules.size rules.cells (IsRefutedIn rules) (IsRefuted symbols signature clauses rules.size) to from e.ps e.all);
    none = λ t o. e.none t (open_back rules.size rules.cells (IsRefutedIn rules) (IsRefuted symbols signature clauses rules.size) to from t (subst (λ n. IsOpen rules.size n (IsRefuted symbols signature clauses rules.size) t) (sym cells_is) o));
    count_is = e.count_is;
    few = e.within;
  }

  pub spent_at : EndsSpent rules budget → SpentAt symbols signature clauses rules.size budget
  spent_at e = record {
    within = within;
    ps = e.ps;
    first = subst (λ n. AreFirst rules.size n (IsRefuted symbols signature clauses rules.size) e.ps) cells_is (first_moved rules.size rules.cells (IsRefutedIn rules) (IsRefuted symbols signature clauses rules.size) to from e.ps e.first);
    count_is = e.count_is;
    p = e.p;
    due = subst (λ n. IsVisited rules.size n (IsRefuted symbols signature clauses rules.size) e.p) cells_is (visited_moved rules.size rules.cells (IsRefutedIn rules) (IsRefuted symbols signature clauses rules.size) to from e.p e.due);
    further = e.further;
  }
