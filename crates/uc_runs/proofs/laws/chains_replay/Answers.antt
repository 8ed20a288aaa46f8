use Rattle.uc_runs.proofs.Replaying.{chains_replay}
use Rattle.uc_runs.proofs.laws.chains_replay.Goals as goal

pub returns : goal.returns
returns g c = λ o s r. chains_replay (g.O.Order.meaning c.args.order.now) o s r
