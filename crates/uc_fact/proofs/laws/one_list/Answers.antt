use Rattle.uc_fact.proofs.Lists.{one}
use Rattle.uc_fact.proofs.laws.one_list.Goals as goal

pub returns : goal.returns
returns c = one
