use Rattle.std.proofs.Common.{◌≡◌, drop}
use Rattle.std.specs.Prelude.{◌||◌}
use Rattle.uc_clause.specs.declared.clause.Name.{Name}
use Rattle.uc_problem.specs.Loading.{gives_name}
use Rattle.uc_problem.specs.NameSets.{has_name}
use Rattle.uc_problem.proofs.selection.names_of.Given as goal

abbrev pub invariant-loop-flat : goal.invariant-loop-flat
invariant-loop-flat l = (name : Name) → gives_name l.clauses name ≡ (has_name l.given.words.keys l.given.integers.keys name || gives_name (drop l.flat-index l.clauses) name)
