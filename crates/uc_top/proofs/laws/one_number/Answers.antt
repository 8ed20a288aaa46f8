use Rattle.uc_top.proofs.GenKeeping.{one_number}
use Rattle.uc_top.proofs.laws.one_number.Goals as goal

pub returns : goal.returns
returns c = one_number
