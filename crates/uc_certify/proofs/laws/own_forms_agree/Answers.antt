use Rattle.uc_certify.proofs.OwnLeast.{own_normal, own_right}
use Rattle.uc_certify.proofs.laws.own_forms_agree.Goals as goal

pub returns-clause-forms : goal.returns-clause-forms
returns-clause-forms g c table problem encoded facts own_facts u n k extends is_own encodes = own_normal (g.O.Order.meaning c.args.order.now) (g.P.Order.meaning c.args.own.now) (g.met.O.Order.laws c.args.order.now) (g.met.P.Order.laws c.args.own.now) extends table problem is_own encoded encodes facts own_facts u n k

pub returns-clause-replies : goal.returns-clause-replies
returns-clause-replies g c table problem encoded s t reply extends is_own encodes = own_right (g.O.Order.meaning c.args.order.now) (g.P.Order.meaning c.args.own.now) (g.met.O.Order.laws c.args.order.now) (g.met.P.Order.laws c.args.own.now) extends table problem is_own encoded encodes s t reply
