use Rattle.std.proofs.Common.{◌≡◌, ◌++◌, codes, take}
use Rattle.uc_tstp.specs.Printing.{further}
use Rattle.uc_certificate.specs.Printing.{move_text}
use Rattle.uc_certificate.proofs.printing.write_more_moves.Given as goal

abbrev pub invariant-loop-step : goal.invariant-loop-step
invariant-loop-step l = (l.out ≡ l.initial.out ++ further (codes ", ") (move_text l.symbols) (take l.step-index l.moves))
