-- The axioms and the signature of a loaded problem are of its table.
use Rattle.std.proofs.Common.{suc, Bool, true, false, List, [], ◌∷◌, refl, if◌then◌else◌}
use Rattle.uc_term.specs.Table.{Table}
use Rattle.uc_term.specs.Gathering.{AreOf}
use Rattle.uc_clause.specs.declared.clause.Sourced.{Sourced}
use Rattle.uc_check.specs.Clauses.{axioms_of, equation_of}
use Rattle.uc_problem.specs.declared.problem.Problem.{Problem}
use Rattle.uc_problem.specs.Holds.{Agrees, terms_of}
use Rattle.uc_ordering.specs.Premises.{IsSignature}
use Rattle.uc_answer.specs.Axioms.{AreEquationsOf}

-- the axioms of clauses over a table
pub axioms_over : (table : Table) (clauses : List Sourced) → AreOf table (terms_of clauses) → AreEquationsOf table (axioms_of clauses)
axioms_over table [] h = tt
axioms_over table (s ∷ ss) h = go s.clause.positive (axioms_over table ss (λ i t e. h (suc (suc i)) t e))
  where
    go : (b : Bool) → AreEquationsOf table (axioms_of ss) → AreEquationsOf table (if b then equation_of s.clause ∷ axioms_of ss else axioms_of ss)
    go true later = (h 0 s.clause.left refl, h 1 s.clause.right refl, later)
    go false later = later

pub is_signature : (table : Table) (problem : Problem) → Agrees table problem → IsSignature table problem.signature
is_signature table problem a = record { terms = terms_of problem.clauses; over = a.over; signature_is = a.signature }
