-- None of the goals of clauses of which a table is a model follows from their axioms.
use Rattle.std.proofs.Common.{List}
use Rattle.uc_term.specs.declared.node.Sym.{Sym}
use Rattle.uc_term.specs.Table.{Table as SymbolTable}
use Rattle.uc_term.specs.Conversion.{SomeFollows}
use Rattle.uc_clause.specs.declared.clause.Sourced.{Sourced}
use Rattle.uc_check.specs.Clauses.{axioms_of, goals_of}
use Rattle.uc_table.specs.declared.table.Table.{Table}
use Rattle.uc_table.specs.Tables.{IsTableOf}
use Rattle.uc_table.specs.Models.{IsModel}
use Rattle.uc_table.proofs.Refuting.{refutes}

pub none_follows : (symbols : SymbolTable) (signature : List Sym) (table : Table) (clauses : List Sourced) → IsTableOf symbols signature table → IsModel table clauses → SomeFollows (axioms_of clauses) (goals_of clauses) → ⊥
none_follows symbols signature table clauses is m f = refutes symbols signature table (axioms_of clauses) f.goal is m.axioms (m.goals f.number f.goal f.goal_is) f.follows
