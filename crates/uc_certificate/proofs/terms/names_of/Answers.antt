use Rattle.std.proofs.Common.{arith}
use Rattle.uc_certificate.proofs.VariableNames.{first_none, first_more, first_all}
use Rattle.uc_certificate.proofs.terms.names_of.Goals as goal

pub loop-variable-init : goal.loop-variable-init
loop-variable-init c = first_none c.new-names.result c.new-names.ensures

pub loop-variable-preserved : goal.loop-variable-preserved
loop-variable-preserved c = first_more c.loop-variable.names c.number.new.self c.loop-variable.variable _ (omega (arith, c.loop-variable-test.true, c.variables_in-variable-end.ensures.few)) c.loop-variable.invariant c.in_ok-name.ensures (rw c.as_bytes.ensures at c.in_ok-number.ensures.seen)
