use Rattle.uc_system.proofs.SystemOnce.{system_once}
use Rattle.uc_system.proofs.laws.one_system.Goals as goal

pub returns : goal.returns
returns c table text a b distinct x y = system_once table distinct text a b x y
