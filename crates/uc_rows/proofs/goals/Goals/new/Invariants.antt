use Rattle.std.proofs.Common.{◌≡◌, map, take}
use Rattle.uc_machine.specs.Runs.{goal_of}
use Rattle.uc_rows.specs.GoalRows.{targets_of}
use Rattle.uc_rows.proofs.goals.Goals.new.Given as goal

abbrev pub invariant-loop-goal : goal.invariant-loop-goal
invariant-loop-goal l = targets_of l.rows.items ≡ map goal_of (take l.goal-index l.goals)
