use Rattle.std.proofs.Common.{◌≡◌, ◌++◌, codes, take}
use Rattle.uc_tstp.specs.Printing.{further}
use Rattle.uc_certificate.specs.Printing.{class_text}
use Rattle.uc_certificate.proofs.printing.write_more_classes.Given as goal

abbrev pub invariant-loop-class : goal.invariant-loop-class
invariant-loop-class l = (l.out ≡ l.initial.out ++ further (codes ", ") class_text (take l.class-index l.classes))
