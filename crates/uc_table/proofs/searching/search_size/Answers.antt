use Rattle.std.proofs.Common.{◌≡◌, ◌∙◌, ap, sym, subst, List, ℕ, ◌≤◌, ◌<◌, length, get_or, arith, rules}
use Rattle.std.proofs.lemmas.Grind.{get_or_default_zero}
use Rattle.uc_table.specs.declared.search_size.Rules.{Rules}
use Rattle.uc_table.specs.Tables.{cells_for, MOST_CELLS}
use Rattle.uc_table.specs.Checks.{AreFewEnough}
use Rattle.uc_table.specs.SearchForms.{IsLaidOut, AreFormsOf}
use Rattle.uc_table.specs.SearchState.{EndsFound, EndsNone, EndsSpent}
use Rattle.uc_table.specs.Searching.{Holds, IsWithin}
use Rattle.uc_table.proofs.SearchRows.{some_cells}
use Rattle.uc_table.proofs.SearchEnds.{form_steps, all_cells, found_at, none_at, spent_at}
use Rattle.uc_table.proofs.searching.search_size.Goals as goal

pub search_tables-requires-clause-cells : goal.search_tables-requires-clause-cells
search_tables-requires-clause-cells c =
    let sy = c.args.symbols.now in
    let sg = c.args.signature.now in
    let lay : IsLaidOut sy c.args.size sg c.in-Some.layout = rw c.in-Some.is at c.in_ok-layout.ensures in
    let b : length sg < length c.in-Some.layout.firsts.items = omega (arith, lay.firsts.as_many) in
    let k : c.index.result.now ≡ get_or c.in-Some.layout.firsts.items (length sg) 0 = grind (arith, get_or_default_zero) in
    let n : c.index.result.now ≡ cells_for sy c.args.size sg = k ∙ all_cells sy c.args.size sg c.in-Some.layout.firsts.items lay.firsts in
    subst (λ (z : ℕ). 0 < z) (sym n) (some_cells sy c.args.size sg c.requires.some c.requires.nonempty)

pub search_tables-requires-clause-few : goal.search_tables-requires-clause-few
search_tables-requires-clause-few c =
    let sy = c.args.symbols.now in
    let sg = c.args.signature.now in
    let lay : IsLaidOut sy c.args.size sg c.in-Some.layout = rw c.in-Some.is at c.in_ok-layout.ensures in
    let b : length sg < length c.in-Some.layout.firsts.items = omega (arith, lay.firsts.as_many) in
    let k : c.index.result.now ≡ get_or c.in-Some.layout.firsts.items (length sg) 0 = grind (arith, get_or_default_zero) in
    let n : c.index.result.now ≡ cells_for sy c.args.size sg = k ∙ all_cells sy c.args.size sg c.in-Some.layout.firsts.items lay.firsts in
    subst (λ (z : ℕ). z ≤ MOST_CELLS) (sym n) lay.few

pub search_tables-requires-clause-steps : goal.search_tables-requires-clause-steps
search_tables-requires-clause-steps c i f g =
    let sy = c.args.symbols.now in
    let sg = c.args.signature.now in
    let lay : IsLaidOut sy c.args.size sg c.in-Some.layout = rw c.in-Some.is at c.in_ok-layout.ensures in
    let are : AreFormsOf sy c.args.size sg c.args.clauses.now c.in_ok-forms_of.field-0.items = subst (λ (z : ℕ). AreFormsOf sy z sg c.args.clauses.now c.in_ok-forms_of.field-0.items) lay.size_is c.in_ok-forms_of.ensures in
    form_steps sy c.args.size sg c.requires.some lay.few c.args.clauses.now c.in_ok-forms_of.field-0.items are i f g

pub search_tables-requires-clause-forms : goal.search_tables-requires-clause-forms
search_tables-requires-clause-forms c =
    let n : length c.in_ok-forms_of.field-0.items ≡ length c.args.clauses.now = c.in_ok-forms_of.ensures.as_many in
    omega (arith, c.requires.clauses)

pub table_of-requires-clause-long : goal.table_of-requires-clause-long
table_of-requires-clause-long c =
    let sy = c.args.symbols.now in
    let sg = c.args.signature.now in
    let lay : IsLaidOut sy c.args.size sg c.in-Some.layout = rw c.in-Some.is at c.in_ok-layout.ensures in
    let b : length sg < length c.in-Some.layout.firsts.items = omega (arith, lay.firsts.as_many) in
    let k : c.index.result.now ≡ get_or c.in-Some.layout.firsts.items (length sg) 0 = grind (arith, get_or_default_zero) in
    let n : c.index.result.now ≡ cells_for sy c.args.size sg = k ∙ all_cells sy c.args.size sg c.in-Some.layout.firsts.items lay.firsts in
    let r : Rules = record { size = c.args.size; cells = c.index.result.now; forms = c.in_ok-forms_of.field-0 } in
    let e : EndsFound r c.args.budget c.in_ok-end.cells.items c.in-Found.field-0 = rw c.in-Found.is at c.in_ok-end.ensures in
    ap length c.deref.ensures.value ∙ e.open_is.whole ∙ n

pub returns-in-Found : goal.returns-in-Found
returns-in-Found c =
    let sy = c.args.symbols.now in
    let sg = c.args.signature.now in
    let lay : IsLaidOut sy c.args.size sg c.in-Some.layout = rw c.in-Some.is at c.in_ok-layout.ensures in
    let are : AreFormsOf sy c.args.size sg c.args.clauses.now c.in_ok-forms_of.field-0.items = subst (λ (z : ℕ). AreFormsOf sy z sg c.args.clauses.now c.in_ok-forms_of.field-0.items) lay.size_is c.in_ok-forms_of.ensures in
    let b : length sg < length c.in-Some.layout.firsts.items = omega (arith, lay.firsts.as_many) in
    let k : c.index.result.now ≡ get_or c.in-Some.layout.firsts.items (length sg) 0 = grind (arith, get_or_default_zero) in
    let n : c.index.result.now ≡ cells_for sy c.args.size sg = k ∙ all_cells sy c.args.size sg c.in-Some.layout.firsts.items lay.firsts in
    let few : AreFewEnough c.args.size c.args.clauses.now = search rules in
    let r : Rules = record { size = c.args.size; cells = c.index.result.now; forms = c.in_ok-forms_of.field-0 } in
    let w : IsWithin sy sg c.args.clauses.now c.args.size = record { cells = lay.few; assignments = few } in
    let e : EndsFound r c.args.budget c.in_ok-end.cells.items c.in-Found.field-0 = rw c.in-Found.is at c.in_ok-end.ensures in
    let h : Holds sy sg c.args.size c.in_ok-end.cells.items c.in_ok-table_of-in-Found.field-0 = subst (λ (z : List ℕ). Holds sy sg c.args.size z c.in_ok-table_of-in-Found.field-0) c.deref.ensures.value c.in_ok-table_of-in-Found.ensures in
    found_at sy sg c.args.clauses.now r c.requires.some are n w c.args.budget c.in_ok-end.cells.items c.in-Found.field-0 c.in_ok-table_of-in-Found.field-0 e h

pub returns-in-None : goal.returns-in-None
returns-in-None c =
    let sy = c.args.symbols.now in
    let sg = c.args.signature.now in
    let lay : IsLaidOut sy c.args.size sg c.in-Some.layout = rw c.in-Some.is at c.in_ok-layout.ensures in
    let are : AreFormsOf sy c.args.size sg c.args.clauses.now c.in_ok-forms_of.field-0.items = subst (λ (z : ℕ). AreFormsOf sy z sg c.args.clauses.now c.in_ok-forms_of.field-0.items) lay.size_is c.in_ok-forms_of.ensures in
    let b : length sg < length c.in-Some.layout.firsts.items = omega (arith, lay.firsts.as_many) in
    let k : c.index.result.now ≡ get_or c.in-Some.layout.firsts.items (length sg) 0 = grind (arith, get_or_default_zero) in
    let n : c.index.result.now ≡ cells_for sy c.args.size sg = k ∙ all_cells sy c.args.size sg c.in-Some.layout.firsts.items lay.firsts in
    let few : AreFewEnough c.args.size c.args.clauses.now = search rules in
    let r : Rules = record { size = c.args.size; cells = c.index.result.now; forms = c.in_ok-forms_of.field-0 } in
    let w : IsWithin sy sg c.args.clauses.now c.args.size = record { cells = lay.few; assignments = few } in
    let e : EndsNone r c.args.budget c.in-None.count = rw c.in-None.is at c.in_ok-end.ensures in
    none_at sy sg c.args.clauses.now r c.requires.some are n w c.args.budget c.in-None.count e

pub returns : goal.returns
returns c =
    let sy = c.args.symbols.now in
    let sg = c.args.signature.now in
    let lay : IsLaidOut sy c.args.size sg c.in-Some.layout = rw c.in-Some.is at c.in_ok-layout.ensures in
    let are : AreFormsOf sy c.args.size sg c.args.clauses.now c.in_ok-forms_of.field-0.items = subst (λ (z : ℕ). AreFormsOf sy z sg c.args.clauses.now c.in_ok-forms_of.field-0.items) lay.size_is c.in_ok-forms_of.ensures in
    let b : length sg < length c.in-Some.layout.firsts.items = omega (arith, lay.firsts.as_many) in
    let k : c.index.result.now ≡ get_or c.in-Some.layout.firsts.items (length sg) 0 = grind (arith, get_or_default_zero) in
    let n : c.index.result.now ≡ cells_for sy c.args.size sg = k ∙ all_cells sy c.args.size sg c.in-Some.layout.firsts.items lay.firsts in
    let few : AreFewEnough c.args.size c.args.clauses.now = search rules in
    let r : Rules = record { size = c.args.size; cells = c.index.result.now; forms = c.in_ok-forms_of.field-0 } in
    let w : IsWithin sy sg c.args.clauses.now c.args.size = record { cells = lay.few; assignments = few } in
    let e : EndsSpent r c.args.budget = rw c.in-Spent.is at c.in_ok-end.ensures in
    spent_at sy sg c.args.clauses.now r c.requires.some are n w c.args.budget e
