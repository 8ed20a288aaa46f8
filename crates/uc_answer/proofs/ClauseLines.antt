-- The clauses of a problem as lines.
use Rattle.std.proofs.Common.{◌≡◌, ◌<◌, ℕ, zero, suc, List, [], ◌∷◌, length, get_or, refl, sym, subst, arith}
use Rattle.uc_term.specs.Table.{Table, IsOf}
use Rattle.uc_term.specs.Gathering.{AreOf}
use Rattle.uc_clause.specs.declared.clause.Sourced.{Sourced}
use Rattle.uc_problem.specs.Holds.{terms_of}

-- both sides of a clause are of the table where all are
pub sides_of : (table : Table) (clauses : List Sourced) (i : ℕ) (s : Sourced) → i < length clauses → s ≡ get_or clauses i s → AreOf table (terms_of clauses) → IsOf table s.clause.left × IsOf table s.clause.right
sides_of table [] i s h e of = absurd (omega arith)
sides_of table (x ∷ xs) zero s h e of = subst (λ (c : Sourced). IsOf table c.clause.left × IsOf table c.clause.right) (sym e) (of 0 x.clause.left refl, of 1 x.clause.right refl)
sides_of table (x ∷ xs) (suc i) s h e of = sides_of table xs i s (omega arith) e (λ j t f. of (suc (suc j)) t f)
