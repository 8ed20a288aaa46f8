use Rattle.uc_check.proofs.Once.{tested_once, first_once, checked_once}
use Rattle.uc_check.proofs.laws.one_answer.Goals as goal

pub returns-clause-outcome : goal.returns-clause-outcome
returns-clause-outcome c clauses fresh lines k line source a b s t = tested_once clauses fresh lines k line source a b s t

pub returns-clause-failure : goal.returns-clause-failure
returns-clause-failure c clauses fresh lines a b f g = first_once clauses fresh lines a b f g

pub returns-clause-answer : goal.returns-clause-answer
returns-clause-answer c clauses fresh lines a b f g = checked_once clauses fresh lines f g
