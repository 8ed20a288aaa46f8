use Rattle.std.proofs.Common.{refl}
use Rattle.uc_check.specs.Tests.{passes, fails}
use Rattle.uc_unify.proofs.Decided.{not_of, of}
use Rattle.uc_check.proofs.encode.test_reflexive.Goals as goal

pub returns-then-not-are_earlier : goal.returns-then-not-are_earlier
returns-then-not-are_earlier c clauses lines = fails (not_of c.are_earlier.result c.if-not-are_earlier.true c.are_earlier.ensures)

pub returns-then-not-reads_reflexive : goal.returns-then-not-reads_reflexive
returns-then-not-reads_reflexive c clauses lines = passes (of c.are_earlier.result c.if-not-are_earlier.false c.are_earlier.ensures) (fails (not_of c.reads_reflexive.result c.if-not-reads_reflexive.true c.reads_reflexive.ensures))

pub returns : goal.returns
returns c clauses lines = passes (of c.are_earlier.result c.if-not-are_earlier.false c.are_earlier.ensures) (passes (of c.reads_reflexive.result c.if-not-reads_reflexive.false c.reads_reflexive.ensures) refl)
