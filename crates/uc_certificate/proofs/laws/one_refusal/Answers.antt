use Rattle.std.proofs.Common.{refl}
use Rattle.uc_certificate.proofs.RefusedAlike.{refused_alike}
use Rattle.uc_certificate.proofs.laws.one_refusal.Goals as goal

pub returns : goal.returns
returns c table other text fault answer d e x y = refused_alike text table other d e fault refl x y
