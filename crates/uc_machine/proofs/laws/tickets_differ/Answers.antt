use Rattle.uc_machine.proofs.Runs.{kept_reaches}
use Rattle.uc_machine.proofs.Promises.{tickets_differ}
use Rattle.uc_machine.proofs.laws.tickets_differ.Goals as goal

pub returns : goal.returns
returns g c = λ o s r. tickets_differ o s (kept_reaches (g.O.Order.meaning c.args.order.now) o s r)
