use Rattle.std.proofs.Common.{◌≡◌, map, take}
use Rattle.uc_machine.specs.State.{Target}
use Rattle.uc_rows.specs.GoalRows.{targets_of}
use Rattle.uc_rows.proofs.goals.Goals.stages.Given as goal

abbrev pub invariant-loop-row : goal.invariant-loop-row
invariant-loop-row l = l.stages.items ≡ map (λ (g : Target). g.stage) (targets_of (take l.row-index l.row-items))
