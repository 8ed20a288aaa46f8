use Rattle.uc_table.proofs.Refuting.{refutes}
use Rattle.uc_table.proofs.laws.model_refutes.Goals as goal

pub returns : goal.returns
returns c = refutes
