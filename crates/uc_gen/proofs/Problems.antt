-- The problem that is put together is the generated one.
use Rattle.std.proofs.Common.{◌≡◌, ℕ, List, [], length, None, sym, ap, ◌∙◌}
use Rattle.uc_term.specs.declared.node.Sym.{Sym}
use Rattle.uc_term.specs.declared.signature.Signature.{Signature}
use Rattle.uc_term.specs.Table.{Table, IsSymbol}
use Rattle.uc_clause.specs.declared.clause.Sourced.{Sourced}
use Rattle.uc_clause.specs.Interning.{with_symbol}
use Rattle.uc_gen.specs.Generated.{function_name, AreConstants, first_axioms, first_numbers, signature_of, with_constants, with_symbols, IsGenerated}

pub generated : (table : Table) (n start : ℕ) (f : Sym) (constants : List Sym) (clauses : List Sourced) (axioms goals : List ℕ) (signature : Signature) → IsSymbol table f function_name 1 → AreConstants table n constants → clauses ≡ first_axioms constants start f (length constants) → axioms ≡ first_numbers n → goals ≡ [] → signature ≡ signature_of f constants → IsGenerated table n start (record { clauses = clauses; axioms = axioms; goals = goals; signature = signature; conjecture = None })
generated table n start f constants clauses axioms goals signature is_f are c a g s =
    let numbers : axioms ≡ first_numbers (length constants) = a ∙ ap first_numbers (sym are.count) in
    record {
      f = f;
      is_f = is_f;
      constants = constants;
      are_constants = are;
      problem_is = λ i. record { clauses = c i; axioms = numbers i; goals = g i; signature = s i; conjecture = None };
    }

pub interned_all : (old middle new : Table) (n : ℕ) → middle ≡ with_symbol old function_name 1 → new ≡ with_constants middle n → new ≡ with_symbols old n
interned_all old middle new n e f = f ∙ ap (λ (t : Table). with_constants t n) e
