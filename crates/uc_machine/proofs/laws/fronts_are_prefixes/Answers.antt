use Rattle.uc_machine.proofs.Runs.{kept_reaches}
use Rattle.uc_machine.proofs.Promises.{fronts_are_prefixes}
use Rattle.uc_machine.proofs.laws.fronts_are_prefixes.Goals as goal

pub returns : goal.returns
returns g c = λ o s r. fronts_are_prefixes o s (kept_reaches (g.O.Order.meaning c.args.order.now) o s r)
