use Rattle.std.proofs.Common.{◌≡◌, sym, subst, List, ◌+◌, ◌-◌, ◌≤◌, ◌<◌, length, arith}
use Rattle.uc_problem.proofs.FreshMarks.{signature_has}
use Rattle.uc_term.specs.declared.node.Sym.{Sym}
use Rattle.uc_term.specs.Gathering.{HasAll}
use Rattle.uc_clause.specs.declared.clause.Sourced.{Sourced}
use Rattle.uc_table.specs.Tables.{MOST_CELLS}
use Rattle.uc_table.specs.SearchSizes.{IsOfSize, FindsAt, NoneAt, SpentAt, TooManyAt}
use Rattle.uc_table.specs.Searching.{is_first, cells_at}
use Rattle.uc_table.proofs.SearchRows.{some_symbol}
use Rattle.uc_table.proofs.SearchWhole.{whole_found, whole_cells, whole_assignments, whole_spent, next_size, whole_absent}
use Rattle.uc_table.specs.declared.answers.Searched.TheVariants.{Found, Absent}
use Rattle.uc_table.proofs.Readiness.{problem_known}
use Rattle.uc_table.proofs.Verdicts.{few_symbols}
use Rattle.uc_table.proofs.SearchShows.{searches_show}
use Rattle.uc_table.proofs.searching.search.Goals as goal

pub loop-at-init : goal.loop-at-init
loop-at-init c = record { reached = is_first; few = omega arith; within = omega arith }

pub search_size-requires-clause-has : goal.search_size-requires-clause-has
search_size-requires-clause-has c = subst (λ (z : List Sym). HasAll c.args.symbols.now z) (sym c.as_slice-signature.ensures) (signature_has c.args.symbols.now c.args.problem.now c.requires.agrees)

pub search_size-requires-clause-few : goal.search_size-requires-clause-few
search_size-requires-clause-few c = subst (λ (z : List Sym). length z < 4294967296) (sym c.as_slice-signature.ensures) (few_symbols c.args.symbols.now c.args.problem.now c.requires.agrees)

pub search_size-requires-clause-nonempty : goal.search_size-requires-clause-nonempty
search_size-requires-clause-nonempty c =
    subst (λ (z : List Sym). 0 < length z) (sym c.as_slice-signature.ensures) (some_symbol c.args.symbols.now c.requires.agrees.signature.symbols c.args.problem.now.signature c.requires.agrees.signature.completes)

pub returns-in-Found-clause-searches : goal.returns-in-Found-clause-searches
returns-in-Found-clause-searches c =
    let sy = c.args.symbols.now in
    let sg = c.args.problem.now.signature.symbols in
    let cl = c.args.problem.now.clauses in
    let left = c.args.budget - c.loop-at.visited in
    let o1 : IsOfSize sy sg c.as_slice-clauses.result.now c.loop-at.at left c.in_ok-table.field-0 = subst (λ (z : List Sym). IsOfSize sy z c.as_slice-clauses.result.now c.loop-at.at left c.in_ok-table.field-0) c.as_slice-signature.ensures c.in_ok-table.ensures in
    let o2 : IsOfSize sy sg cl c.loop-at.at left c.in_ok-table.field-0 = subst (λ (z : List Sourced). IsOfSize sy sg z c.loop-at.at left c.in_ok-table.field-0) c.as_slice-clauses.ensures o1 in
    let f : FindsAt sy sg cl c.loop-at.at left c.in-Found.table = rw c.in-Found.is at o2 in
    whole_found sy sg cl c.args.budget c.args.size c.loop-at.at c.loop-at.visited c.loop-at.invariant.reached c.loop-at.invariant.few c.in-Found.table c.loop-at-test.true f

pub returns-in-Spent-clause-searches : goal.returns-in-Spent-clause-searches
returns-in-Spent-clause-searches c =
    let sy = c.args.symbols.now in
    let sg = c.args.problem.now.signature.symbols in
    let cl = c.args.problem.now.clauses in
    let left = c.args.budget - c.loop-at.visited in
    let o1 : IsOfSize sy sg c.as_slice-clauses.result.now c.loop-at.at left c.in_ok-table.field-0 = subst (λ (z : List Sym). IsOfSize sy z c.as_slice-clauses.result.now c.loop-at.at left c.in_ok-table.field-0) c.as_slice-signature.ensures c.in_ok-table.ensures in
    let o2 : IsOfSize sy sg cl c.loop-at.at left c.in_ok-table.field-0 = subst (λ (z : List Sourced). IsOfSize sy sg z c.loop-at.at left c.in_ok-table.field-0) c.as_slice-clauses.ensures o1 in
    let f : SpentAt sy sg cl c.loop-at.at left = rw c.in-Spent.is at o2 in
    whole_spent sy sg cl c.args.budget c.args.size c.loop-at.at c.loop-at.visited c.loop-at.invariant.reached c.loop-at.invariant.few c.loop-at-test.true f

pub returns-in-Cells-clause-searches : goal.returns-in-Cells-clause-searches
returns-in-Cells-clause-searches c =
    let sy = c.args.symbols.now in
    let sg = c.args.problem.now.signature.symbols in
    let cl = c.args.problem.now.clauses in
    let left = c.args.budget - c.loop-at.visited in
    let o1 : IsOfSize sy sg c.as_slice-clauses.result.now c.loop-at.at left c.in_ok-table.field-0 = subst (λ (z : List Sym). IsOfSize sy z c.as_slice-clauses.result.now c.loop-at.at left c.in_ok-table.field-0) c.as_slice-signature.ensures c.in_ok-table.ensures in
    let o2 : IsOfSize sy sg cl c.loop-at.at left c.in_ok-table.field-0 = subst (λ (z : List Sourced). IsOfSize sy sg z c.loop-at.at left c.in_ok-table.field-0) c.as_slice-clauses.ensures o1 in
    let f : MOST_CELLS < cells_at sy sg cl c.loop-at.at = rw c.in-Cells.is at o2 in
    whole_cells sy sg cl c.args.budget c.args.size c.loop-at.at c.loop-at.visited c.loop-at.invariant.reached c.loop-at.invariant.few c.loop-at-test.true f

pub returns-in-Assignments-clause-searches : goal.returns-in-Assignments-clause-searches
returns-in-Assignments-clause-searches c =
    let sy = c.args.symbols.now in
    let sg = c.args.problem.now.signature.symbols in
    let cl = c.args.problem.now.clauses in
    let left = c.args.budget - c.loop-at.visited in
    let o1 : IsOfSize sy sg c.as_slice-clauses.result.now c.loop-at.at left c.in_ok-table.field-0 = subst (λ (z : List Sym). IsOfSize sy z c.as_slice-clauses.result.now c.loop-at.at left c.in_ok-table.field-0) c.as_slice-signature.ensures c.in_ok-table.ensures in
    let o2 : IsOfSize sy sg cl c.loop-at.at left c.in_ok-table.field-0 = subst (λ (z : List Sourced). IsOfSize sy sg z c.loop-at.at left c.in_ok-table.field-0) c.as_slice-clauses.ensures o1 in
    let f : TooManyAt sy sg cl c.loop-at.at left = rw c.in-Assignments.is at o2 in
    whole_assignments sy sg cl c.args.budget c.args.size c.loop-at.at c.loop-at.visited c.loop-at.invariant.reached c.loop-at.invariant.few c.loop-at-test.true f

pub loop-at-preserved : goal.loop-at-preserved
loop-at-preserved c =
    let sy = c.args.symbols.now in
    let sg = c.args.problem.now.signature.symbols in
    let cl = c.args.problem.now.clauses in
    let left = c.args.budget - c.loop-at.visited in
    let o1 : IsOfSize sy sg c.as_slice-clauses.result.now c.loop-at.at left c.in_ok-table.field-0 = subst (λ (z : List Sym). IsOfSize sy z c.as_slice-clauses.result.now c.loop-at.at left c.in_ok-table.field-0) c.as_slice-signature.ensures c.in_ok-table.ensures in
    let o2 : IsOfSize sy sg cl c.loop-at.at left c.in_ok-table.field-0 = subst (λ (z : List Sourced). IsOfSize sy sg z c.loop-at.at left c.in_ok-table.field-0) c.as_slice-clauses.ensures o1 in
    let f : NoneAt sy sg cl c.loop-at.at left c.in-None.count = rw c.in-None.is at o2 in
    let k : c.in-None.count ≤ left = f.few in
    record { reached = next_size sy sg cl c.args.budget c.args.size c.loop-at.at c.loop-at.visited c.loop-at.invariant.reached c.loop-at.invariant.few c.in-None.count f; few = omega arith; within = omega arith }

pub returns-clause-searches : goal.returns-clause-searches
returns-clause-searches c =
    let e : c.loop-at.at ≡ c.args.size + 1 = omega arith in
    whole_absent c.args.symbols.now c.args.problem.now.signature.symbols c.args.problem.now.clauses c.args.budget c.args.size c.loop-at.at c.loop-at.visited c.loop-at.invariant.reached c.loop-at.invariant.few e

pub returns-in-Found-clause-shows : goal.returns-in-Found-clause-shows
returns-in-Found-clause-shows c = searches_show c.args.symbols.now c.args.problem.now.signature.symbols c.args.problem.now.clauses c.args.budget (problem_known c.args.symbols.now c.args.problem.now c.requires.agrees) c.args.size (Found c.in-Found.table) c.requires.most (returns-in-Found-clause-searches c)

pub returns-clause-shows : goal.returns-clause-shows
returns-clause-shows c = searches_show c.args.symbols.now c.args.problem.now.signature.symbols c.args.problem.now.clauses c.args.budget (problem_known c.args.symbols.now c.args.problem.now c.requires.agrees) c.args.size Absent c.requires.most (returns-clause-searches c)
