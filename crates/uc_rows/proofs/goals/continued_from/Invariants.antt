use Rattle.std.proofs.Common.{◌≡◌, ℕ, ◌<◌, ◌≤◌, get_or, length, false}
use Rattle.uc_rows.specs.declared.goals.GoalRow.{GoalRow}
use Rattle.uc_machine.specs.State.{is_continued}
use Rattle.uc_rows.proofs.goals.continued_from.Given as goal

abbrev pub invariant-loop-k : goal.invariant-loop-k
invariant-loop-k l = (j : ℕ) (d : GoalRow) → l.from ≤ j → j < l.k → j < length l.rows → is_continued (get_or l.rows j d).stage ≡ false
