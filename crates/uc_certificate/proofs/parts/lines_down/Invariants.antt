use Rattle.std.proofs.Common.{◌≡◌, ◌-◌}
use Rattle.uc_certificate.specs.Reading.{lines_down}
use Rattle.uc_certificate.proofs.parts.lines_down.Given as goal

abbrev pub invariant-loop : goal.invariant-loop
invariant-loop l = lines_down (l.count - l.counter) l.rest ≡ lines_down l.count l.text
