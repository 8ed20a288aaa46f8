use Rattle.uc_fof.proofs.Whole.{file_once}
use Rattle.uc_fof.proofs.laws.one_reading.Goals as goal

pub returns : goal.returns
returns c table bytes a b distinct x y = file_once bytes table distinct a b x y
