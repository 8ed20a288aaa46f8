use Rattle.uc_certify.proofs.Known.{tested_among}
use Rattle.uc_certify.proofs.comparison.is_among.Goals as goal

pub returns : goal.returns
returns c = tested_among c.args.cases.now c.args.x c.class_of.result c.len.result c.class_of.ensures.value c.len.ensures
