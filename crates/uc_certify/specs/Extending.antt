-- Orders that extend an order of a problem's own symbols to more symbols.
use Rattle.std.specs.Prelude.{◌≡◌, ◌↔◌}
use Rattle.uc_term.specs.declared.node.Sym.{Sym}
use Rattle.uc_term.specs.Tree.{Tree}
use Rattle.uc_order.specs.Members.{In}
use Rattle.uc_order.specs.Laws.{Meaning, HasSym, IsGroundOf}
use Rattle.uc_fact.specs.Ground.{AreOfSignature}
use Rattle.uc_check.specs.Clauses.{axioms_of}
use Rattle.uc_problem.specs.declared.problem.Problem.{Problem}

-- of two ground terms over the symbols of the own order, the one is greater by either order exactly if it is by the other
abbrev pub AgreeOnOwn : Meaning → Meaning → Type 0
AgreeOnOwn m own = (s t : Tree) → IsGroundOf own s → IsGroundOf own t → m.greater s t ↔ own.greater s t

-- The order m has all symbols of the own order, with their arities. On ground terms over these both agree, and one of these symbols is
-- the least constant of m.
pub record Extends (m own : Meaning) : Type 0 where
  pub symbols : (f : Sym) → HasSym own f → HasSym m f × (m.arity f ≡ own.arity f)
  pub agree : AgreeOnOwn m own
  pub least_is_own : HasSym own m.least

-- It is an order of the problem's own symbols, its fresh constant among them, without those of the encoding. The axioms are over them.
pub record IsOwnOrder (problem : Problem) (own : Meaning) : Type 0 where
  pub symbols : (f : Sym) → HasSym own f → In problem.signature.symbols f
  pub axioms_over : AreOfSignature (HasSym own) own.arity (axioms_of problem.clauses)
