use Rattle.std.proofs.Common.{arith}
use Rattle.uc_answer.proofs.DirectedLines.{sides_of, one_more, all_told}
use Rattle.uc_answer.proofs.directing.directed_lines.Goals as goal

pub directed_line-requires-clause-left : goal.directed_line-requires-clause-left
directed_line-requires-clause-left g c = (sides_of c.args.symbols.now c.args.equations.now c.loop-number.number c.index-equations-number.result (omega arith) c.index-equations-number.is c.requires).0

pub directed_line-requires-clause-right : goal.directed_line-requires-clause-right
directed_line-requires-clause-right g c = (sides_of c.args.symbols.now c.args.equations.now c.loop-number.number c.index-equations-number.result (omega arith) c.index-equations-number.is c.requires).1

pub loop-number-preserved : goal.loop-number-preserved
loop-number-preserved g c = record {
  lines = rw (c.in_ok-push.ensures.ok, c.in_ok-directed_line.ensures) (one_more c.args.symbols.now (g.O.Order.meaning c.args.order.now) c.args.equations.now c.loop-number.number c.loop-number.lines c.index-equations-number.result c.compared-cmp.result (omega arith) c.index-equations-number.is c.compared-cmp.ensures c.loop-number.invariant.lines);
}

pub returns : goal.returns
returns g c = all_told c.args.symbols.now (g.O.Order.meaning c.args.order.now) c.args.equations.now c.loop-number.number c.loop-number.lines (omega arith) c.loop-number.invariant.lines
