use Rattle.uc_tstp.specs.declared.scope.Scope.TheVariants as scope
use Rattle.uc_tstp.specs.Reading.{whole}
use Rattle.uc_tstp.proofs.ReadingGrows.{inside_grows, reading_grows}
use Rattle.uc_tstp.proofs.laws.reading_stays.Goals as goal

pub returns-clause-proof : goal.returns-clause-proof
returns-clause-proof c old new text answer grows r = reading_grows old new grows text r

pub returns-clause-lines : goal.returns-clause-lines
returns-clause-lines c old new text answer grows r = inside_grows old new grows scope.Proof text (whole text) r
