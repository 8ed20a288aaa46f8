use Rattle.uc_ordering.proofs.Restricted.{restricted_agrees}
use Rattle.uc_ordering.proofs.laws.restriction_agrees.Goals as goal

pub returns : goal.returns
returns c table own spec s t gs gt = restricted_agrees table own spec s t gs gt
