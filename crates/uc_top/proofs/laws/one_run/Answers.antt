use Rattle.uc_search.proofs.OneSearch.{one_search}
use Rattle.uc_top.proofs.RunsAlike.{runs_alike}
use Rattle.uc_top.proofs.laws.one_run.Goals as goal

pub returns : goal.returns
returns c = runs_alike one_search
