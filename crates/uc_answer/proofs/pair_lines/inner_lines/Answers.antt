use Rattle.std.proofs.Common.{arith}
use Rattle.uc_answer.proofs.DirectedLines.{sides_of}
use Rattle.uc_answer.proofs.PairLines.{sides_found, same_element, one_more_inner, all_inner_told}
use Rattle.uc_answer.proofs.pair_lines.inner_lines.Goals as goal

pub pairs_of-requires-clause-a : goal.pairs_of-requires-clause-a
pairs_of-requires-clause-a g c = sides_found c.args.symbols.now c.args.equations.now c.args.outer c.args.a.now c.requires.one c.requires.over

pub pairs_of-requires-clause-b : goal.pairs_of-requires-clause-b
pairs_of-requires-clause-b g c = sides_of c.args.symbols.now c.args.equations.now c.loop-inner.inner c.index-equations-inner.result (omega arith) c.index-equations-inner.is c.requires.over

pub pairs_of-requires-clause-same : goal.pairs_of-requires-clause-same
pairs_of-requires-clause-same g c = same_element c.args.equations.now c.args.outer c.loop-inner.inner c.args.a.now c.index-equations-inner.result c.requires.one (omega arith) c.index-equations-inner.is

pub loop-inner-preserved : goal.loop-inner-preserved
loop-inner-preserved g c = record {
  begun = rw c.in_ok-append.ensures.ok (one_more_inner c.args.symbols.now (g.O.Order.meaning c.args.order.now) c.args.outer c.args.a.now c.args.equations.now c.loop-inner.inner c.loop-inner.lines c.in_ok-pairs_of.field-0 c.index-equations-inner.result (omega arith) c.index-equations-inner.is c.in_ok-pairs_of.ensures c.loop-inner.invariant.begun);
}

pub returns : goal.returns
returns g c = all_inner_told c.args.symbols.now (g.O.Order.meaning c.args.order.now) c.args.outer c.args.a.now c.args.equations.now c.loop-inner.inner c.loop-inner.lines (omega arith) c.loop-inner.invariant.begun
