use Rattle.std.proofs.Common.{arith}
use Rattle.uc_clause.proofs.Unescaping.{unescaped_more, unescaped_end}
use Rattle.uc_clause.proofs.quotes.unescaped.Goals as goal

pub loop-at-preserved : goal.loop-at-preserved
loop-at-preserved c = record {
  within = omega (arith, c.plain_at-from.ensures.within);
  rest = unescaped_more c.args.pieces.now c.loop-at.out _ c.loop-at.at c.plain_at-from.result (omega arith) c.plain_at-from.ensures.value c.loop-at.invariant.rest c.in_ok-push.ensures.ok;
}

pub returns : goal.returns
returns c = unescaped_end c.args.pieces.now c.loop-at.out c.loop-at.at (omega arith) c.loop-at.invariant.rest
