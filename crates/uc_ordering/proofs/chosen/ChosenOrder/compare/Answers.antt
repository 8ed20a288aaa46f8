use Rattle.uc_ordering.proofs.chosen.ChosenOrder.compare.Goals as goal

pub returns-in-Kbo-clause-greater : goal.returns-in-Kbo-clause-greater
returns-in-Kbo-clause-greater c = rw c.in-Kbo.is c.compare.ensures.greater

pub returns-in-Kbo-clause-less : goal.returns-in-Kbo-clause-less
returns-in-Kbo-clause-less c = rw c.in-Kbo.is c.compare.ensures.less

pub returns-in-Lpo-clause-greater : goal.returns-in-Lpo-clause-greater
returns-in-Lpo-clause-greater c = rw c.in-Lpo.is c.compare-in-Lpo.ensures.greater

pub returns-in-Lpo-clause-less : goal.returns-in-Lpo-clause-less
returns-in-Lpo-clause-less c = rw c.in-Lpo.is c.compare-in-Lpo.ensures.less
