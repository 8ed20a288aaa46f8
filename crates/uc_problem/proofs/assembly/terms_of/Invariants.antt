use Rattle.std.proofs.Common.{◌≡◌, ◌++◌, drop}
use Rattle.uc_problem.specs.Holds.{terms_of}
use Rattle.uc_problem.proofs.assembly.terms_of.Given as goal

abbrev pub invariant-loop-sourced : goal.invariant-loop-sourced
invariant-loop-sourced l = l.terms.items ++ terms_of (drop l.sourced-index l.clauses) ≡ terms_of l.clauses
