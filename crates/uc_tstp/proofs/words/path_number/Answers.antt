use Rattle.std.proofs.Common.{sym, ◌∙◌}
use Rattle.uc_tstp.proofs.Numbers.{path_number_too_big}
use Rattle.uc_tstp.proofs.words.path_number.Goals as goal

pub returns-then-number-gt255 : goal.returns-then-number-gt255
returns-then-number-gt255 c =
    sym (c.loop-byte.invariant.rest ∙ path_number_too_big c.loop-byte.number c.args.digits.now c.loop-byte.byte-index c.loop-byte-test.true (sym c.if-not-is_digit.ensures) c.if-number-gt255.true)
