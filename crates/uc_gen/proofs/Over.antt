-- The axioms of a generated problem are over its signature.
use Rattle.std.proofs.Common.{◌≡◌, ℕ, zero, suc, ◌+◌, ◌*◌, ◌%◌, ◌<◌, ◌≤◌, Bool, true, false, List, [], ◌∷◌, ◌++◌, length, slice_get, unwrap_or, Some, if◌then◌else◌, refl, sym, arith}
use Rattle.std.proofs.lemmas.Nat.{mod_below}
use Rattle.uc_term.specs.declared.node.Sym.{Sym}
use Rattle.uc_term.specs.declared.equation.Equation.{Equation}
use Rattle.uc_term.specs.Over.{IsTerm}
use Rattle.uc_term.specs.Table.{Table, IsSymbol, arity_of}
use Rattle.uc_clause.specs.declared.clause.Sourced.{Sourced}
use Rattle.uc_check.specs.Clauses.{axioms_of, equation_of}
use Rattle.uc_problem.specs.declared.problem.Problem.{Problem}
use Rattle.uc_order.specs.Members.{In, in_front, in_rest, Each}
use Rattle.uc_gen.specs.Sequence.{number_at}
use Rattle.uc_gen.specs.Generated.{function_name, constant_name, AreConstants, axiom_of, drawn_at, first_axioms, IsGenerated}
use Rattle.uc_gen.proofs.Signature.{arity_is}

-- members by their places
get_in : (cs : List Sym) (i : ℕ) (d : Sym) → i < length cs → In cs (unwrap_or (slice_get cs i) d)
get_in [] i d less = absurd (omega (arith, less))
get_in (c ∷ cs) zero d less = in_front
get_in (c ∷ cs) (suc i) d less = in_rest (get_in cs i d (omega (arith, less)))

pub in_at : (cs : List Sym) (c : Sym) → In cs c → (i : ℕ) × (slice_get cs i ≡ Some c)
in_at [] c i = elim i [ ]
in_at (c ∷ cs) _ in_front = (0, refl)
in_at (d ∷ cs) c (in_rest i) = let r = in_at cs c i in (suc r.0, r.1)

module _ (table : Table) where
  abbrev IsOverSymbols : List Sym → Equation → Type 0
  IsOverSymbols fs e = IsTerm (In fs) (arity_of table) e.left × IsTerm (In fs) (arity_of table) e.right

  module _ (f : Sym) (is_f : IsSymbol table f function_name 1) (n : ℕ) (some : 1 ≤ n) (constants : List Sym) (are : AreConstants table n constants) (start : ℕ) where
    pub constant_arity : (c : Sym) → In constants c → arity_of table c ≡ 0
    constant_arity c i = let at = in_at constants c i in arity_is table c (constant_name at.0) 0 (are.each at.0 c at.1)

    drawn_in : (k : ℕ) → In constants (drawn_at constants start k)
    drawn_in k = get_in constants (number_at start k % length constants) (record { 0 = 0 }) (mod_below (number_at start k) (length constants) (omega (arith, are.count, some)))

    abbrev IsClauseOver : Sourced → Type 0
    IsClauseOver s = IsOverSymbols (f ∷ constants) (equation_of s.clause)

    clause_over : (k : ℕ) (c d : Sym) → In constants c → In constants d → IsClauseOver (axiom_of f k c d)
    clause_over k c d i j = ((in_front, sym (arity_is table f function_name 1 is_f), ((in_rest i, sym (constant_arity c i), tt), tt)), (in_rest j, sym (constant_arity d j), tt))

    with_last : (ss : List Sourced) (s : Sourced) → Each IsClauseOver ss → IsClauseOver s → Each IsClauseOver (ss ++ s ∷ [])
    with_last [] s h k = (k, tt)
    with_last (r ∷ ss) s h k = (h.0, with_last ss s h.1 k)

    clauses_over : (k : ℕ) → Each IsClauseOver (first_axioms constants start f k)
    clauses_over zero = tt
    clauses_over (suc k) = with_last (first_axioms constants start f k) (axiom_of f k (drawn_at constants start (2 * k)) (drawn_at constants start (2 * k + 1))) (clauses_over k) (clause_over k (drawn_at constants start (2 * k)) (drawn_at constants start (2 * k + 1)) (drawn_in (2 * k)) (drawn_in (2 * k + 1)))

    equations_over : (ss : List Sourced) → Each IsClauseOver ss → Each (IsOverSymbols (f ∷ constants)) (axioms_of ss)
    equations_over [] h = tt
    equations_over (s ∷ ss) h = go s.clause.positive (equations_over ss h.1)
      where
        go : (b : Bool) → Each (IsOverSymbols (f ∷ constants)) (axioms_of ss) → Each (IsOverSymbols (f ∷ constants)) (if b then equation_of s.clause ∷ axioms_of ss else axioms_of ss)
        go true later = (h.0, later)
        go false later = later

  pub axioms_over : (n start : ℕ) (problem : Problem) → 1 ≤ n → IsGenerated table n start problem → Each (λ (e : Equation). IsTerm (In problem.signature.symbols) (arity_of table) e.left × IsTerm (In problem.signature.symbols) (arity_of table) e.right) (axioms_of problem.clauses)
  axioms_over n start problem some g =
      rw g.problem_is (equations_over g.f g.is_f n some g.constants g.are_constants start (first_axioms g.constants start g.f (length g.constants)) (clauses_over g.f g.is_f n some g.constants g.are_constants start (length g.constants)))
