use Rattle.std.proofs.Common.{◌≡◌, ◌++◌, codes, take}
use Rattle.uc_tstp.specs.Printing.{further, step_text, names_in}
use Rattle.uc_tstp.proofs.printing.write_steps.Given as goal

abbrev pub invariant-loop-step : goal.invariant-loop-step
invariant-loop-step l = (l.out ≡ l.initial.out ++ further (codes ", ") (step_text l.symbols (names_in l.lines)) (take l.step-index l.steps))
