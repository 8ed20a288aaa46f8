use Rattle.std.proofs.Common.{◌≡◌, drop}
use Rattle.std.specs.Prelude.{List}
use Rattle.uc_clause.specs.declared.clause.Name.{Name}
use Rattle.uc_problem.specs.declared.flat.FlatClause.{FlatClause}
use Rattle.uc_problem.specs.Loading.{gives_name, first_missing}
use Rattle.uc_problem.specs.NameSets.{has_name}
use Rattle.uc_problem.proofs.selection.first_outside.Given as goal

abbrev pub invariant-loop-listed : goal.invariant-loop-listed
invariant-loop-listed l = (clauses : List FlatClause) → ((name : Name) → has_name l.given.words.keys l.given.integers.keys name ≡ gives_name clauses name) → first_missing clauses l.names ≡ first_missing clauses (drop l.listed-index l.names)
