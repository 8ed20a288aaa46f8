use Rattle.std.proofs.Common.{◌≡◌, ◌++◌}
use Rattle.uc_problem.specs.Conjecture.{closed_all}
use Rattle.uc_problem.proofs.closing.close_all.Given as goal

abbrev pub invariant-loop-flat : goal.invariant-loop-flat
invariant-loop-flat l = l.clauses ++ closed_all l.constants l.flat-iterator.rest.items ≡ closed_all l.constants l.initial.flat-iterator.rest.items
