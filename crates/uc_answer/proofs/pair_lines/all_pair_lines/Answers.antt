use Rattle.std.proofs.Common.{arith}
use Rattle.uc_answer.proofs.PairLines.{found_at, one_more_outer, all_outer_told}
use Rattle.uc_answer.proofs.pair_lines.all_pair_lines.Goals as goal

pub inner_lines-requires-clause-one : goal.inner_lines-requires-clause-one
inner_lines-requires-clause-one g c = found_at c.args.equations.now c.loop-outer.outer c.index-equations-outer.result (omega arith) c.index-equations-outer.is

pub loop-outer-preserved : goal.loop-outer-preserved
loop-outer-preserved g c = record {
  begun = rw c.in_ok-append.ensures.ok (one_more_outer c.args.symbols.now (g.O.Order.meaning c.args.order.now) c.args.equations.now c.loop-outer.outer c.loop-outer.lines c.in_ok-inner_lines.field-0 c.index-equations-outer.result (omega arith) c.index-equations-outer.is c.in_ok-inner_lines.ensures c.loop-outer.invariant.begun);
}

pub returns : goal.returns
returns g c = all_outer_told c.args.symbols.now (g.O.Order.meaning c.args.order.now) c.args.equations.now c.loop-outer.outer c.loop-outer.lines (omega arith) c.loop-outer.invariant.begun
