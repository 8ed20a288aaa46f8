use Rattle.std.proofs.Common.{◌≡◌, ◌++◌, codes, take}
use Rattle.uc_tstp.specs.Printing.{further}
use Rattle.uc_certificate.specs.Printing.{triple_text}
use Rattle.uc_certificate.proofs.printing.write_more_triples.Given as goal

abbrev pub invariant-loop-triple : goal.invariant-loop-triple
invariant-loop-triple l = (l.out ≡ l.initial.out ++ further (codes ", ") triple_text (take l.triple-index l.triples))
