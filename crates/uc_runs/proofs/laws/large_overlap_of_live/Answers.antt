use Rattle.uc_runs.proofs.LargeOverlaps.{large_of_live}
use Rattle.uc_runs.proofs.laws.large_overlap_of_live.Goals as goal

pub returns : goal.returns
returns g c = λ axioms s x f. large_of_live (g.O.Order.meaning c.args.order.now) axioms s x f
