use Rattle.uc_machine.proofs.OneCall.{one_commit}
use Rattle.uc_machine.proofs.laws.one_commit.Goals as goal

pub returns : goal.returns
returns c = one_commit
