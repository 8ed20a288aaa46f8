use Rattle.uc_problem.proofs.EncodedOnce.{decides, adds_nothing}
use Rattle.uc_problem.proofs.laws.encoding_is_sound.Goals as goal

pub returns-clause-decides : goal.returns-clause-decides
returns-clause-decides c table problem encoded marks agrees encodes marked = decides table problem agrees encoded marks encodes marked

pub returns-clause-adds_nothing : goal.returns-clause-adds_nothing
returns-clause-adds_nothing c table problem encoded marks agrees encodes marked u v lu lv = adds_nothing table problem agrees encoded marks encodes marked u v lu lv
