use Rattle.uc_worker.proofs.Ending.{ended_with}
use Rattle.uc_search.proofs.Rests.{searched_rests, searched_none, search_verdict}
use Rattle.uc_worker.proofs.laws.one_worker_ends.Goals as goal

pub returns : goal.returns
returns g c = λ o w v s few a.
    let m = g.O.Order.meaning c.args.order.now in
    ended_with m o s v (search_verdict m o w a.start v s a.searches) (searched_none m o w v s a) (searched_rests m o w few v s a).reaches
