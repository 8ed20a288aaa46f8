use Rattle.std.proofs.Common.{◌≡◌, ℕ, ◌<◌, ◌≤◌, get_or, length, false}
use Rattle.uc_rows.specs.declared.facts.FactRow.{FactRow}
use Rattle.uc_machine.specs.State.{is_unmet}
use Rattle.uc_rows.proofs.facts.unmet_from.Given as goal

abbrev pub invariant-loop-k : goal.invariant-loop-k
invariant-loop-k l = (j : ℕ) (d : FactRow) → l.from ≤ j → j < l.k → j < length l.rows → is_unmet (get_or l.rows j d).meeting ≡ false
