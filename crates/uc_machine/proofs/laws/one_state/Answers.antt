use Rattle.uc_machine.proofs.Runs.{kept_reaches}
use Rattle.uc_machine.proofs.Promises.{one_state}
use Rattle.uc_machine.proofs.laws.one_state.Goals as goal

pub returns : goal.returns
returns g c = λ o s r. one_state o s (kept_reaches (g.O.Order.meaning c.args.order.now) o s r)
