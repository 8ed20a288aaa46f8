use Rattle.uc_gen.proofs.Classes.{one_count, one_form_count}
use Rattle.uc_gen.proofs.laws.one_count.Goals as goal

pub returns-clause-classes : goal.returns-clause-classes
returns-clause-classes g c = one_count

pub returns-clause-forms : goal.returns-clause-forms
returns-clause-forms g c = λ es terms m n h k. one_form_count (g.O.Order.meaning c.args.order.now) es terms m n h k
