use Rattle.std.proofs.Common.{refl}
use Rattle.uc_system.proofs.AlikeTables.{refused_alike}
use Rattle.uc_system.proofs.laws.one_refusal.Goals as goal

pub returns : goal.returns
returns c table other text fault answer d e x y = refused_alike table other d e text fault refl x y
