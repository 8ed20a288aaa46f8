use Rattle.std.proofs.Common.{◌≡◌, ◌++◌, drop, filter}
use Rattle.uc_problem.specs.Kinds.{is_of}
use Rattle.uc_problem.proofs.Encodings.{is_at}
use Rattle.uc_problem.proofs.encoding.numbers.Given as goal

abbrev pub invariant-loop-number : goal.invariant-loop-number
invariant-loop-number l = l.numbers ++ filter (is_at (is_of l.kind) l.clauses) (drop l.number-index l.goals) ≡ filter (is_at (is_of l.kind) l.clauses) l.goals
