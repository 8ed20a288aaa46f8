use Rattle.uc_system.proofs.Interned.{system_interns_once}
use Rattle.uc_system.proofs.laws.one_table.Goals as goal

pub returns : goal.returns
returns c text old new other x y = system_interns_once x y
