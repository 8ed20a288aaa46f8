use Rattle.uc_tstp.proofs.InternedOnce.{proof_interns_once}
use Rattle.uc_tstp.proofs.laws.one_table.Goals as goal

pub returns : goal.returns
returns c text old new other x y = proof_interns_once text old new other x y
