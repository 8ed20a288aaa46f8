use Rattle.uc_proof.proofs.Once.{facts_once}
use Rattle.uc_proof.proofs.laws.one_derivation.Goals as goal

pub returns : goal.returns
returns c problem encoded facts live xs ys fs gs ns ms is a b = facts_once problem encoded facts live xs ys fs gs ns ms is a b
