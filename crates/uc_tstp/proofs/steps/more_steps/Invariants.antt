use Rattle.std.proofs.Common.{◌+◌, ◌-◌, length}
use Rattle.uc_term.specs.Table.{Grows}
use Rattle.uc_tstp.proofs.StepReading.{Kept}
use Rattle.uc_tstp.proofs.steps.more_steps.Given as goal

abbrev pub invariant-members : goal.invariant-members
invariant-members l = record {
  keeps : Kept l.bytes l.tokens l.from l.fn.variables l.fn.symbols l.more l.at l.variables l.symbols l.list;
  grows : Grows l.fn.symbols l.symbols;
}

abbrev pub decreases-members : goal.decreases-members
decreases-members l = length l.tokens + 1 - l.at
