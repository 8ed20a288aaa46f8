use Rattle.uc_fact.proofs.Lists.{of_list}
use Rattle.uc_fact.proofs.laws.first_of_the_list.Goals as goal

pub returns : goal.returns
returns g c = of_list (g.T.Test.accepts c.args.test.now)
