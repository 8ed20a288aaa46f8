use Rattle.std.proofs.Common.{◌≡◌, ◌++◌, map, take}
use Rattle.uc_tstp.specs.Printing.{line_name, names_in}
use Rattle.uc_certificate.specs.Headings.{spaced}
use Rattle.uc_certificate.proofs.printing.write_names.Given as goal

abbrev pub invariant-loop-fact : goal.invariant-loop-fact
invariant-loop-fact l = (l.out ≡ l.initial.out ++ spaced (map (line_name (names_in l.lines)) (take l.fact-index l.facts)))
