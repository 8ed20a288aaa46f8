-- The states of the goals.
use Rattle.std.specs.Prelude.{ℕ, List, Option, map}
use Rattle.uc_machine.specs.declared.state.Stage.{Stage}
use Rattle.uc_machine.specs.Lists.{At, first, map_option}
use Rattle.uc_machine.specs.State.{Target}
use Rattle.uc_machine.specs.Finals.{is_stuck}

-- what is to be done for each goal
abbrev pub stages_of : List Target → List Stage
stages_of goals = map (λ (g : Target). g.stage) goals

-- the number of the first that is Stuck
abbrev pub first_stuck_stage : List Stage → Option ℕ
first_stuck_stage stages = map_option (λ (x : At Stage). x.number) (first is_stuck stages)
