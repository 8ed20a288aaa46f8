use Rattle.uc_gen.proofs.Once.{generated_once}
use Rattle.uc_gen.proofs.laws.one_generated.Goals as goal

pub returns : goal.returns
returns c table n start a b distinct x y = generated_once table n start a b distinct x y
