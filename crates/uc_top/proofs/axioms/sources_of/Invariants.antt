use Rattle.std.proofs.Common.{◌≡◌, ◌++◌, drop, map}
use Rattle.uc_problem.specs.declared.problem.Source.TheVariants as source
use Rattle.uc_top.proofs.axioms.sources_of.Given as goal

abbrev pub invariant-loop-number : goal.invariant-loop-number
invariant-loop-number l = l.sources ++ map source.Clause (drop l.number-index l.numbers) ≡ map source.Clause l.numbers
