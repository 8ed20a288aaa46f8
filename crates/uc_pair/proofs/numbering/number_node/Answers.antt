use Rattle.std.proofs.Common.{arith}
use Rattle.uc_pair.proofs.numbering.number_node.Goals as goal

pub overflow_add-result : goal.overflow_add-result
overflow_add-result c = omega (arith, c.in_ok-name_place-in-Var.ensures.low, c.requires.few, c.requires.low)
