use Rattle.uc_machine.proofs.Runs.{kept_reaches}
use Rattle.uc_machine.proofs.Promises.{counts_workers}
use Rattle.uc_machine.proofs.laws.counts_workers.Goals as goal

pub returns : goal.returns
returns g c = λ o s r. counts_workers o s (kept_reaches (g.O.Order.meaning c.args.order.now) o s r)
