-- What a table is to a problem, from what its clauses are to it.
use Rattle.std.proofs.Common.{◌≡◌, ℕ, ◌+◌, ◌<◌, ◌≤◌, true, false, List, length, slice_get, Some, Ok, Result, refl, sym, subst, arith}
use Rattle.std.proofs.lemmas.List.{length_push}
use Rattle.uc_term.specs.declared.node.Sym.{Sym}
use Rattle.uc_term.specs.declared.fault.TermFault.{TermFault}
use Rattle.uc_term.specs.declared.signature.Signature.{Signature}
use Rattle.uc_term.specs.declared.equation.Equation.{Equation}
use Rattle.uc_term.specs.Conversion.{SomeFollows}
use Rattle.uc_term.specs.Table.{Table as SymbolTable}
use Rattle.uc_term.specs.Signatures.{Occurrence, Gathers, all_seen, seen_before, is_new, Completes, has_constant, gets_constant, IsSignatureOf, MAX_SYMBOLS}
use Rattle.uc_clause.specs.declared.clause.Sourced.{Sourced}
use Rattle.uc_check.specs.Clauses.{axioms_of, goals_of}
use Rattle.uc_problem.specs.declared.problem.Problem.{Problem}
use Rattle.uc_problem.specs.Holds.{Agrees, terms_of}
use Rattle.uc_table.specs.declared.table.Table.{Table}
use Rattle.uc_table.specs.declared.answers.Tabled.TheVariants.{Model, AxiomFails, GoalMeets}
use Rattle.uc_table.specs.Tables.{IsTableOf}
use Rattle.uc_table.specs.Models.{Satisfies, KeepsApart, SatisfiesAll, KeepsAllApart}
use Rattle.uc_table.specs.Checks.{Checks, axiom_fails, goal_meets, is_model, AreFewEnough, IsFirstAt, FailsAt, MeetsAt}
use Rattle.uc_table.specs.Against.{Keeps, KeepAll, IsAgainst, equations_of}
use Rattle.uc_table.proofs.Polarity.{axioms_are, goals_are}
use Rattle.uc_table.proofs.Refuting.{refutes}

module _ (table : Table) (clauses : List Sourced) where
  pub all_satisfied : KeepAll table true (equations_of true clauses) → SatisfiesAll table (axioms_of clauses)
  all_satisfied h k e is = h k e (subst (λ es. slice_get es k ≡ Some e) (sym (axioms_are clauses)) is)

  pub all_apart : KeepAll table false (equations_of false clauses) → KeepsAllApart table (goals_of clauses)
  all_apart h k e is = h k e (subst (λ es. slice_get es k ≡ Some e) (sym (goals_are clauses)) is)

  module _ (few : AreFewEnough table.size clauses) where
    pub axiom_case : (k : ℕ) (vs : List ℕ) → (e : Equation) × IsFirstAt (Keeps table true) (IsAgainst table true vs) (equations_of true clauses) k e → Checks table clauses (AxiomFails k vs)
    axiom_case k vs r =
        let at : IsFirstAt (Satisfies table) (FailsAt table vs) (axioms_of clauses) k r.0 = subst (λ es. IsFirstAt (Satisfies table) (FailsAt table vs) es k r.0) (axioms_are clauses) r.1 in
        axiom_fails few at

    pub goal_case : (k : ℕ) (vs : List ℕ) → KeepAll table true (equations_of true clauses) → (e : Equation) × IsFirstAt (Keeps table false) (IsAgainst table false vs) (equations_of false clauses) k e → Checks table clauses (GoalMeets k vs)
    goal_case k vs h r =
        let at : IsFirstAt (KeepsApart table) (MeetsAt table vs) (goals_of clauses) k r.0 = subst (λ es. IsFirstAt (KeepsApart table) (MeetsAt table vs) es k r.0) (goals_are clauses) r.1 in
        goal_meets few (all_satisfied h) at

    pub model_case : KeepAll table true (equations_of true clauses) → KeepAll table false (equations_of false clauses) → Checks table clauses Model
    model_case h k = is_model few (record { axioms = all_satisfied h; goals = all_apart k })

  pub none_follows : (symbols : SymbolTable) (signature : List Sym) → IsTableOf symbols signature table → KeepAll table true (equations_of true clauses) → KeepAll table false (equations_of false clauses) → SomeFollows (axioms_of clauses) (goals_of clauses) → ⊥
  none_follows symbols signature is h k f = refutes symbols signature table (axioms_of clauses) f.goal is (all_satisfied h) (all_apart k f.number f.goal f.goal_is) f.follows

-- a signature has few symbols
same_ok : {a b : List Sym} → ◌≡◌ {A = Result (List Sym) TermFault} (Ok a) (Ok b) → a ≡ b
same_ok e = cc

gathered_few : {table : SymbolTable} {seen : List Sym} {os : List Occurrence} {r : Result (List Sym) TermFault} → Gathers table seen os r → (fs : List Sym) → r ≡ Ok fs → length seen ≤ MAX_SYMBOLS → length fs ≤ MAX_SYMBOLS
gathered_few all_seen fs e h = subst (λ (gs : List Sym). length gs ≤ MAX_SYMBOLS) (same_ok e) h
gathered_few (seen_before k g) fs e h = gathered_few g fs e h
gathered_few {seen = seen} (is_new {o = o} n m g) fs e h = gathered_few g fs e (omega (arith, length_push seen o.symbol))
gathered_few v fs e h = absurd cc

completed_few : (table : SymbolTable) (fs : List Sym) (signature : Signature) → Completes table fs signature → length fs ≤ MAX_SYMBOLS → length signature.symbols ≤ MAX_SYMBOLS + 1
completed_few table fs signature (has_constant e) h = omega arith
completed_few table fs signature (gets_constant {c = c} e f) h = omega (arith, length_push fs c)

pub few_symbols : (table : SymbolTable) (problem : Problem) → Agrees table problem → length problem.signature.symbols < 4294967296
few_symbols table problem agrees =
    let s : IsSignatureOf table (terms_of problem.clauses) problem.signature = agrees.signature in
    omega (arith, completed_few table s.symbols problem.signature s.completes (gathered_few s.gathers s.symbols refl (omega arith)))
