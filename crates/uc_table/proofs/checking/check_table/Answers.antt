use Rattle.std.proofs.Common.{◌≡◌, ◌<◌, ℕ, Bool, true, false, List, Option, None, Some, MatchOption, length, sym, ◌∙◌, subst}
use Rattle.std.proofs.lemmas.Option.{MatchOption-at_some, MatchOption-at_none}
use Rattle.uc_term.specs.declared.node.Sym.{Sym}
use Rattle.uc_term.specs.Gathering.{HasAll}
use Rattle.uc_clause.specs.declared.clause.Sourced.{Sourced}
use Rattle.uc_problem.proofs.FreshMarks.{signature_has}
use Rattle.uc_term.specs.declared.equation.Equation.{Equation}
use Rattle.uc_term.specs.Table.{Table as SymbolTable}
use Rattle.uc_problem.specs.declared.problem.Problem.{Problem}
use Rattle.uc_problem.specs.Holds.{Agrees}
use Rattle.uc_table.specs.declared.table.Table.{Table}
use Rattle.uc_table.specs.Tables.{IsTableOf}
use Rattle.uc_table.specs.Checks.{has_too_many, AreFewEnough, IsFirstAt}
use Rattle.uc_table.specs.Evaluating.{AreNumbers}
use Rattle.uc_table.specs.Against.{Keeps, KeepAll, IsAgainst, equations_of, AreReadyClauses}
use Rattle.uc_table.proofs.Readiness.{problem_ready}
use Rattle.uc_table.proofs.Verdicts.{axiom_case, goal_case, model_case, none_follows, few_symbols}
use Rattle.uc_table.proofs.checking.check_table.Goals as goal

pub returns-in-Some-clause-checks : goal.returns-in-Some-clause-checks
returns-in-Some-clause-checks c = has_too_many (rw c.as_slice-clauses.ensures at c.in-Some.ensures).1

pub numbers_of-requires-clause-has : goal.numbers_of-requires-clause-has
numbers_of-requires-clause-has c =
    subst (HasAll c.args.symbols.now) (sym (c.as_slice-3.ensures ∙ c.requires.table.symbols_are)) (signature_has c.args.symbols.now c.args.problem.now c.requires.agrees)

pub numbers_of-requires-clause-few : goal.numbers_of-requires-clause-few
numbers_of-requires-clause-few c =
    let same : c.as_slice-3.result.now ≡ c.args.problem.now.signature.symbols = c.as_slice-3.ensures ∙ c.requires.table.symbols_are in
    subst (λ (fs : List Sym). length fs < 4294967296) (sym same) (few_symbols c.args.symbols.now c.args.problem.now c.requires.agrees)

-- the clauses of the problem are ready for the numbers that were made
ready : (symbols : SymbolTable) (problem : Problem) (table : Table) (clauses : List Sourced) (fs : List Sym) (made numbers : List ℕ) → Agrees symbols problem → IsTableOf symbols problem.signature.symbols table → clauses ≡ problem.clauses → fs ≡ table.symbols → AreNumbers fs made × (length made ≡ length symbols) → numbers ≡ made → AreReadyClauses table numbers clauses
ready symbols problem table clauses fs made numbers agrees is c f n e =
    subst (AreReadyClauses table numbers) (sym c) (subst (λ ns. AreReadyClauses table ns problem.clauses) (sym e) (problem_ready symbols problem table made agrees is (subst (λ gs. AreNumbers gs made) f n.0) n.1))

module _ (table : Table) (given clauses : List Sourced) (same : given ≡ clauses) where
  few : AreFewEnough table.size given → AreFewEnough table.size clauses
  few h = subst (AreFewEnough table.size) same h

  all : (positive : Bool) (found : Option (ℕ × List ℕ)) → found ≡ None → MatchOption found (KeepAll table positive (equations_of positive given)) (λ r. (e : Equation) × IsFirstAt (Keeps table positive) (IsAgainst table positive r.1) (equations_of positive given) r.0 e) → KeepAll table positive (equations_of positive clauses)
  all positive found e h = subst (λ ss. KeepAll table positive (equations_of positive ss)) same (MatchOption-at_none (KeepAll table positive (equations_of positive given)) (λ (r : ℕ × List ℕ). (e : Equation) × IsFirstAt (Keeps table positive) (IsAgainst table positive r.1) (equations_of positive given) r.0 e) e h)

  one : (positive : Bool) (found : Option (ℕ × List ℕ)) (k : ℕ) (vs : List ℕ) → found ≡ Some (k, vs) → MatchOption found (KeepAll table positive (equations_of positive given)) (λ r. (e : Equation) × IsFirstAt (Keeps table positive) (IsAgainst table positive r.1) (equations_of positive given) r.0 e) → (e : Equation) × IsFirstAt (Keeps table positive) (IsAgainst table positive vs) (equations_of positive clauses) k e
  one positive found k vs e h = subst (λ (ss : List Sourced). (e : Equation) × IsFirstAt (Keeps table positive) (IsAgainst table positive vs) (equations_of positive ss) k e) same (MatchOption-at_some (KeepAll table positive (equations_of positive given)) (λ (r : ℕ × List ℕ). (e : Equation) × IsFirstAt (Keeps table positive) (IsAgainst table positive r.1) (equations_of positive given) r.0 e) (k, vs) e h)

pub first_against-requires-clause-ready : goal.first_against-requires-clause-ready
first_against-requires-clause-ready c =
    ready c.args.symbols.now c.args.problem.now c.args.table.now c.as_slice-clauses.result.now c.as_slice-3.result.now c.in_ok-numbers.numbers.items c.as_slice-numbers.result.now c.requires.agrees c.requires.table c.as_slice-clauses.ensures c.as_slice-3.ensures c.in_ok-numbers.ensures c.as_slice-numbers.ensures.value

pub returns-in-Some-2-clause-checks : goal.returns-in-Some-2-clause-checks
returns-in-Some-2-clause-checks c =
    axiom_case c.args.table.now c.args.problem.now.clauses (few c.args.table.now c.as_slice-clauses.result.now c.args.problem.now.clauses c.as_slice-clauses.ensures c.in_default.ensures) c.in-Some-2.number c.in-Some-2.values
    (one c.args.table.now c.as_slice-clauses.result.now c.args.problem.now.clauses c.as_slice-clauses.ensures true c.in_ok-number.field-0 c.in-Some-2.number c.in-Some-2.values c.in-Some-2.is c.in_ok-number.ensures)

pub first_against-requires-2-clause-ready : goal.first_against-requires-2-clause-ready
first_against-requires-2-clause-ready c =
    ready c.args.symbols.now c.args.problem.now c.args.table.now c.as_slice-clauses.result.now c.as_slice-3.result.now c.in_ok-numbers.numbers.items c.as_slice-numbers.result.now c.requires.agrees c.requires.table c.as_slice-clauses.ensures c.as_slice-3.ensures c.in_ok-numbers.ensures c.as_slice-numbers.ensures.value

pub returns-in-Some-3-clause-checks : goal.returns-in-Some-3-clause-checks
returns-in-Some-3-clause-checks c =
    goal_case c.args.table.now c.args.problem.now.clauses (few c.args.table.now c.as_slice-clauses.result.now c.args.problem.now.clauses c.as_slice-clauses.ensures c.in_default.ensures) c.in-Some-3.number c.in-Some-3.values
    (all c.args.table.now c.as_slice-clauses.result.now c.args.problem.now.clauses c.as_slice-clauses.ensures true c.in_ok-number.field-0 c.in_default-2.is c.in_ok-number.ensures)
    (one c.args.table.now c.as_slice-clauses.result.now c.args.problem.now.clauses c.as_slice-clauses.ensures false c.in_ok-number-2.field-0 c.in-Some-3.number c.in-Some-3.values c.in-Some-3.is c.in_ok-number-2.ensures)

pub returns-clause-checks : goal.returns-clause-checks
returns-clause-checks c =
    model_case c.args.table.now c.args.problem.now.clauses (few c.args.table.now c.as_slice-clauses.result.now c.args.problem.now.clauses c.as_slice-clauses.ensures c.in_default.ensures)
    (all c.args.table.now c.as_slice-clauses.result.now c.args.problem.now.clauses c.as_slice-clauses.ensures true c.in_ok-number.field-0 c.in_default-2.is c.in_ok-number.ensures)
    (all c.args.table.now c.as_slice-clauses.result.now c.args.problem.now.clauses c.as_slice-clauses.ensures false c.in_ok-number-2.field-0 c.in_default-3.is c.in_ok-number-2.ensures)

pub returns-clause-refutes : goal.returns-clause-refutes
returns-clause-refutes c = λ e f.
    none_follows c.args.table.now c.args.problem.now.clauses c.args.symbols.now c.args.problem.now.signature.symbols c.requires.table
    (all c.args.table.now c.as_slice-clauses.result.now c.args.problem.now.clauses c.as_slice-clauses.ensures true c.in_ok-number.field-0 c.in_default-2.is c.in_ok-number.ensures)
    (all c.args.table.now c.as_slice-clauses.result.now c.args.problem.now.clauses c.as_slice-clauses.ensures false c.in_ok-number-2.field-0 c.in_default-3.is c.in_ok-number-2.ensures)
    f
