use Rattle.uc_certificate.proofs.ReadingStays.{reading_stays}
use Rattle.uc_certificate.proofs.laws.reading_stays.Goals as goal

pub returns : goal.returns
returns c old new text answer grows r = reading_stays old new grows text answer r
