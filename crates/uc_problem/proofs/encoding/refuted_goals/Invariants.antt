use Rattle.std.proofs.Common.{◌≡◌, ◌++◌, drop, map}
use Rattle.uc_term.specs.Encoding.{refuted}
use Rattle.uc_problem.specs.Marks.{is_open_goal}
use Rattle.uc_problem.specs.Encodes.{equations_where}
use Rattle.uc_problem.proofs.encoding.refuted_goals.Given as goal

abbrev pub invariant-loop-sourced : goal.invariant-loop-sourced
invariant-loop-sourced l = l.equations ++ map (refuted l.fresh) (equations_where is_open_goal (drop l.sourced-index l.clauses)) ≡ map (refuted l.fresh) (equations_where is_open_goal l.clauses)
