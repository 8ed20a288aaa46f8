use Rattle.std.proofs.Common.{◌≡◌, ◌++◌, drop}
use Rattle.uc_problem.specs.Kinds.{is_of}
use Rattle.uc_problem.specs.Encodes.{equations_where}
use Rattle.uc_problem.proofs.encoding.equations.Given as goal

abbrev pub invariant-loop-sourced : goal.invariant-loop-sourced
invariant-loop-sourced l = l.equations ++ equations_where (is_of l.kind) (drop l.sourced-index l.clauses) ≡ equations_where (is_of l.kind) l.clauses
