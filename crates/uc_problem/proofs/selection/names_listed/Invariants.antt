use Rattle.std.proofs.Common.{◌≡◌, drop}
use Rattle.std.specs.Prelude.{◌||◌}
use Rattle.uc_clause.specs.declared.clause.Name.{Name}
use Rattle.uc_problem.specs.Loading.{lists_name}
use Rattle.uc_problem.specs.NameSets.{has_name}
use Rattle.uc_problem.proofs.selection.names_listed.Given as goal

abbrev pub invariant-loop-name : goal.invariant-loop-name
invariant-loop-name l = (name : Name) → lists_name l.names name ≡ (has_name l.listed.words.keys l.listed.integers.keys name || lists_name (drop l.name-index l.names) name)
