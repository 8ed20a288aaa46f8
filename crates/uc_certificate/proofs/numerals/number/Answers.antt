use Rattle.std.proofs.Common.{sym, arith}
use Rattle.uc_system.proofs.NumberSteps.{all_more, digit_is}
use Rattle.uc_certificate.proofs.NumberSteps.{value_more}
use Rattle.uc_certificate.proofs.numerals.number.Goals as goal

pub loop-digit-preserved : goal.loop-digit-preserved
loop-digit-preserved c = record {
  digits = all_more c.args.digits.now c.loop-digit.digit-index c.loop-digit-test.true c.loop-digit.invariant.digits (sym c.if-not-is_ascii_digit.ensures.value);
  value = value_more c.args.digits.now c.loop-digit.digit-index c.loop-digit.value c.saturating_mul.result c.saturating_add-value.result c.loop-digit-test.true (digit_is _ (sym c.if-not-is_ascii_digit.ensures.value)) c.loop-digit.invariant.value c.saturating_mul.ensures (omega (arith, c.saturating_add-value.ensures, c.from.ensures));
}
