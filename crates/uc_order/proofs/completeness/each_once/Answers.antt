use Rattle.uc_order.proofs.Exactly.{standing_by, has_all}
use Rattle.uc_order.proofs.completeness.each_once.Goals as goal

pub returns : goal.returns
returns c = record { once = standing_by; has = has_all }
