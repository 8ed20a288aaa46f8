use Rattle.std.proofs.Common.{◌≡◌, ◌++◌, filter}
use Rattle.uc_problem.specs.NameSets.{has_name}
use Rattle.uc_problem.proofs.selection.kept_among.Given as goal

abbrev pub invariant-loop-flat : goal.invariant-loop-flat
invariant-loop-flat l = l.kept ++ filter (λ s. has_name l.listed.words.keys l.listed.integers.keys s.clause.name) l.flat-iterator.rest.items ≡ filter (λ s. has_name l.listed.words.keys l.listed.integers.keys s.clause.name) l.initial.flat-iterator.rest.items
