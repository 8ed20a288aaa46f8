use Rattle.uc_certify.proofs.FewVariables.{few_variables}
use Rattle.uc_certify.proofs.PrintableJoins.{made_of_table, made_printable}
use Rattle.uc_certify.proofs.laws.made_joins_are_printable.Goals as goal

pub returns-clause-of_table : goal.returns-clause-of_table
returns-clause-of_table g c table facts axioms joins made over axioms_over symbols = made_of_table (g.O.Order.meaning c.args.order.now) (g.met.O.Order.laws c.args.order.now) table facts axioms over axioms_over symbols joins made

pub returns-clause-printable : goal.returns-clause-printable
returns-clause-printable g c table facts axioms joins made over axioms_over symbols few = made_printable (g.O.Order.meaning c.args.order.now) (g.met.O.Order.laws c.args.order.now) table facts axioms over axioms_over symbols few joins made

pub returns-clause-few : goal.returns-clause-few
returns-clause-few g c equations numbered small = few_variables equations numbered small
