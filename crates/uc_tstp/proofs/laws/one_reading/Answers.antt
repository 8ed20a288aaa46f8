use Rattle.uc_tstp.specs.declared.scope.Scope.TheVariants as scope
use Rattle.uc_tstp.specs.Reading.{whole}
use Rattle.uc_tstp.proofs.FramedOnce.{framed_once}
use Rattle.uc_tstp.proofs.ReadingOnce.{reading_once, inside_once}
use Rattle.uc_tstp.proofs.laws.one_reading.Goals as goal

pub returns-clause-frame : goal.returns-clause-frame
returns-clause-frame c text a b x y = framed_once text x y

pub returns-clause-reading : goal.returns-clause-reading
returns-clause-reading c table text a b distinct x y = reading_once text table distinct x y

pub returns-clause-lines : goal.returns-clause-lines
returns-clause-lines c table text a b distinct x y = inside_once scope.Proof text (whole text) table distinct x y
