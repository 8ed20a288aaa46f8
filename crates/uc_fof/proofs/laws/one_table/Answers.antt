use Rattle.uc_fof.proofs.Whole.{table_once}
use Rattle.uc_fof.proofs.laws.one_table.Goals as goal

pub returns : goal.returns
returns c bytes old new other x y = table_once bytes old new other x y
