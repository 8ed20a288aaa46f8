use Rattle.std.proofs.Common.{arith}
use Rattle.uc_fof.proofs.Marks.{some_mark}
use Rattle.uc_fof.proofs.tokens.expect_mark.Goals as goal

pub overflow_add-result : goal.overflow_add-result
overflow_add-result c = omega (arith, some_mark c.args.bytes.now c.args.tokens.now c.args.mark c.args.at c.if-is_mark.ensures)
