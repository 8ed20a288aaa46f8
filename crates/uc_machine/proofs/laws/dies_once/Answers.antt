use Rattle.uc_machine.proofs.Runs.{kept_reaches}
use Rattle.uc_machine.proofs.Promises.{dies_once}
use Rattle.uc_machine.proofs.laws.dies_once.Goals as goal

pub returns : goal.returns
returns g c = λ o s r. dies_once o s (kept_reaches (g.O.Order.meaning c.args.order.now) o s r)
