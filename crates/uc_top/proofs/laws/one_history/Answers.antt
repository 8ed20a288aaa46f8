use Rattle.uc_search.proofs.OneSearch.{one_search}
use Rattle.uc_top.proofs.OneHistory.{proved_history, decided_history}
use Rattle.uc_top.proofs.WithinLimits.{weight_within}
use Rattle.uc_top.proofs.laws.one_history.Goals as goal

pub returns : goal.returns
returns c = record {
  prove = λ files words command name s t a b x y reads alone. (let within = weight_within words command reads in proved_history one_search files command within.0 within.1 alone name x y);
  decide = λ files words k l name asked others s t a b x y reads alone alone_too roots orders budgets limits. (let within = weight_within words k reads in decided_history one_search files k l within.0 within.1 alone alone_too name roots orders budgets limits x y);
}
