use Rattle.uc_system.proofs.Stays.{system_stays}
use Rattle.uc_system.proofs.laws.system_stays.Goals as goal

pub returns : goal.returns
returns c old new text answer grows r = system_stays old new grows text answer r
