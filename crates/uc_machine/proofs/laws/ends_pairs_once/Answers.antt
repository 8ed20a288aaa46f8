use Rattle.uc_machine.proofs.Runs.{kept_reaches}
use Rattle.uc_machine.proofs.Promises.{ends_pairs_once}
use Rattle.uc_machine.proofs.laws.ends_pairs_once.Goals as goal

pub returns : goal.returns
returns g c = λ o s r. ends_pairs_once o s (kept_reaches (g.O.Order.meaning c.args.order.now) o s r)
