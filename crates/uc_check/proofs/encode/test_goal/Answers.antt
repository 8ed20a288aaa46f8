use Rattle.std.proofs.Common.{refl}
use Rattle.uc_check.specs.Tests.{passes, fails}
use Rattle.uc_unify.proofs.Decided.{not_of, of}
use Rattle.uc_check.proofs.encode.test_goal.Goals as goal

pub returns-then-not-are_earlier : goal.returns-then-not-are_earlier
returns-then-not-are_earlier c clauses = fails (not_of c.are_earlier.result c.if-not-are_earlier.true c.are_earlier.ensures)

pub returns-then-not-branch : goal.returns-then-not-branch
returns-then-not-branch c clauses = passes (of c.are_earlier.result c.if-not-are_earlier.false c.are_earlier.ensures) (fails (not_of c.in_ok-reads_goal.field-0 c.if-not-branch.true c.in_ok-reads_goal.ensures))

pub returns : goal.returns
returns c clauses = passes (of c.are_earlier.result c.if-not-are_earlier.false c.are_earlier.ensures) (passes (of c.in_ok-reads_goal.field-0 c.if-not-branch.false c.in_ok-reads_goal.ensures) refl)
