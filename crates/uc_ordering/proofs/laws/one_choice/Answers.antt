use Rattle.uc_ordering.proofs.Once.{order_once, refusal_once, chosen_or_refused}
use Rattle.uc_ordering.proofs.laws.one_choice.Goals as goal

pub returns-clause-order : goal.returns-clause-order
returns-clause-order c table signature words fresh a b x y = order_once table signature words fresh a b x y

pub returns-clause-refusal : goal.returns-clause-refusal
returns-clause-refusal c table signature words a b na nb x y = refusal_once table signature words a b na nb x y

pub returns-clause-never_both : goal.returns-clause-never_both
returns-clause-never_both c table signature words fresh spec fault na x y = chosen_or_refused table signature words fresh spec fault na x y
