use Rattle.uc_fof.proofs.ConstantLaw.{by_constants, from_constants}
use Rattle.uc_fof.proofs.laws.constants_stand_for_variables.Goals as goal

pub returns : goal.returns
returns c cs es s t apart foreign l m = (by_constants cs es foreign s t, from_constants cs es foreign apart s t l m)
