use Rattle.std.proofs.Common.{inl, inr, refl}
use Rattle.uc_check.specs.Tests.{passes, fails}
use Rattle.uc_check.proofs.Once.{neither}
use Rattle.uc_unify.proofs.Decided.{not_of, of}
use Rattle.uc_check.proofs.refute.test_refute.Goals as goal

pub returns-then-not-are_earlier : goal.returns-then-not-are_earlier
returns-then-not-are_earlier c clauses = fails (not_of c.are_earlier.result c.if-not-are_earlier.true c.are_earlier.ensures)

pub returns-then-refutes_ground : goal.returns-then-refutes_ground
returns-then-refutes_ground c clauses = passes (of c.are_earlier.result c.if-not-are_earlier.false c.are_earlier.ensures) (passes (inl (of c.refutes_ground.result c.if-refutes_ground.true c.refutes_ground.ensures)) refl)

pub returns-then-refutes_encoded : goal.returns-then-refutes_encoded
returns-then-refutes_encoded c clauses = passes (of c.are_earlier.result c.if-not-are_earlier.false c.are_earlier.ensures) (passes (inr (of c.refutes_encoded.result c.if-refutes_encoded.true c.refutes_encoded.ensures)) refl)

pub returns : goal.returns
returns c clauses = passes (of c.are_earlier.result c.if-not-are_earlier.false c.are_earlier.ensures) (fails (neither (not_of c.refutes_ground.result c.if-refutes_ground.false c.refutes_ground.ensures) (not_of c.refutes_encoded.result c.if-refutes_encoded.false c.refutes_encoded.ensures)))
