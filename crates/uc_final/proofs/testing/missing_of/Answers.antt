use Rattle.uc_final.proofs.Tested.{none_by_trial, some_by_trial}
use Rattle.uc_final.proofs.testing.missing_of.Goals as goal

pub returns-in-Joined : goal.returns-in-Joined
returns-in-Joined g c = none_by_trial (g.O.Order.meaning c.args.order.now) c.args.axioms.now c.args.front.now.entries c.args.origin.now c.in_ok-try_pair.field-0 c.in-Joined.field-0 c.in-Joined.is c.in_ok-try_pair.ensures

pub returns : goal.returns
returns g c = some_by_trial (g.O.Order.meaning c.args.order.now) c.args.axioms.now c.args.front.now.entries c.args.origin.now c.in_ok-try_pair.field-0 c.in-Open.fact c.in-Open.answer c.in-Open.is c.in_ok-try_pair.ensures
