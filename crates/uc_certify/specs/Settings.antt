-- What is known of the encoded problem to which a certificate belongs.
use Rattle.std.specs.Prelude.{◌≡◌, List, Ok}
use Rattle.uc_term.specs.declared.node.Sym.{Sym}
use Rattle.uc_term.specs.Table.{Table, arity_of}
use Rattle.uc_clause.specs.declared.clause.Sourced.{Sourced}
use Rattle.uc_order.specs.Members.{In}
use Rattle.uc_order.specs.Laws.{Meaning, HasSym}
use Rattle.uc_fact.specs.Ground.{AreOfSignature}
use Rattle.uc_problem.specs.declared.problem.Problem.{Problem}
use Rattle.uc_problem.specs.declared.problem.Encoded.{Encoded}
use Rattle.uc_problem.specs.Encodes.{Encodes}

-- The encoded problem is the encoding of a problem of these clauses. Its axioms are over its signature in the table of symbols, whose
-- arities the order's symbols have.
pub record IsEncodingOf (m : Meaning) (clauses : List Sourced) (encoded : Encoded) : Type 0 where
  pub table : Table
  pub problem : Problem
  pub clauses_are : problem.clauses ≡ clauses
  pub encodes : Encodes table problem (Ok encoded)
  pub axioms_over : AreOfSignature (In encoded.signature.symbols) (arity_of table) encoded.axioms
  pub arities : (f : Sym) → HasSym m f → m.arity f ≡ arity_of table f
