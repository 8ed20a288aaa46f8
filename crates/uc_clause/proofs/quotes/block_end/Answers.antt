use Rattle.std.proofs.Common.{rules, arith}
use Rattle.uc_clause.proofs.BlockLemmas.{behind_more, before_more, ends_now, never}
use Rattle.uc_clause.proofs.quotes.block_end.Goals as goal

pub loop-at-preserved : goal.loop-at-preserved
loop-at-preserved c =
    let inv = c.loop-at.invariant in
    record {
      within = omega arith;
      behind = behind_more c.args.text.now c.loop-at.at inv.behind inv.before (omega arith) (search rules);
      before = before_more c.args.text.now c.loop-at.at inv.behind inv.before (omega arith);
    }

pub returns-then-closes_at-clause-some : goal.returns-then-closes_at-clause-some
returns-then-closes_at-clause-some c = let inv = c.loop-at.invariant in (omega arith, ends_now c.args.text.now c.loop-at.at inv.behind inv.before (omega arith) (search rules) (search rules))

pub returns-clause-none : goal.returns-clause-none
returns-clause-none c = let inv = c.loop-at.invariant in never c.args.text.now c.loop-at.at inv.behind inv.before (omega arith)
