use Rattle.uc_certify.proofs.Once.{expected_once, certified_once}
use Rattle.uc_certify.proofs.laws.one_certified.Goals as goal

pub returns-clause-expected : goal.returns-clause-expected
returns-clause-expected g c facts axioms a b x y = expected_once (g.O.Order.meaning c.args.order.now).greater facts axioms a b x y

pub returns-clause-answer : goal.returns-clause-answer
returns-clause-answer g c clauses encoded certificate a b x y = certified_once (g.O.Order.meaning c.args.order.now) clauses encoded certificate a b x y
