use Rattle.uc_certificate.proofs.ReadingOnce.{reading_once}
use Rattle.uc_certificate.proofs.laws.one_reading.Goals as goal

pub returns : goal.returns
returns c table text a b distinct x y = reading_once text table distinct x y
