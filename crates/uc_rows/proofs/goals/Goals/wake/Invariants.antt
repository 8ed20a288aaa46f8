use Rattle.std.proofs.Common.{◌≡◌, ℕ, ◌<◌, map, length, get_or}
use Rattle.uc_rows.specs.declared.goals.GoalRow.{GoalRow}
use Rattle.uc_machine.specs.State.{is_continued}
use Rattle.uc_machine.specs.Effects.{wakes, wakes_stage}
use Rattle.uc_rows.specs.GoalRows.{targets_of, NoneBelow}
use Rattle.uc_rows.proofs.goals.Goals.wake.Given as goal

abbrev pub invariant-loop-k : goal.invariant-loop-k
invariant-loop-k l = record {
  same : map wakes (targets_of l.self-inside.rows.items) ≡ map wakes (targets_of l.initial.self-inside.rows.items);
  awake : (j : ℕ) (d : GoalRow) → j < l.k → j < length l.self-inside.rows.items → wakes_stage (get_or l.self-inside.rows.items j d).stage ≡ (get_or l.self-inside.rows.items j d).stage;
  continued : NoneBelow is_continued l.self-inside.continued_from l.self-inside.rows.items;
  as_many : length l.self-inside.rows.items ≡ length l.initial.self-inside.rows.items;
}
