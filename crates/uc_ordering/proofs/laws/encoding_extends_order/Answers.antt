use Rattle.uc_ordering.proofs.OwnPart.{own_part, own_least}
use Rattle.uc_ordering.proofs.laws.encoding_extends_order.Goals as goal

pub returns-clause-restriction : goal.returns-clause-restriction
returns-clause-restriction c table signature words marks whole own some most is are is_whole is_own = own_part table signature words some most is own is_own marks are whole is_whole

pub returns-clause-least : goal.returns-clause-least
returns-clause-least c table signature words marks whole own some most is are is_whole is_own = own_least table signature words some most is own is_own marks are whole is_whole
