use Rattle.std.proofs.Common.{length-drop, arith}
use Rattle.uc_clause.proofs.PieceLemmas.{behind_more, before_more, never, closes_now, no_more}
use Rattle.uc_clause.proofs.quotes.closing.Goals as goal

pub loop-at-preserved : goal.loop-at-preserved
loop-at-preserved c =
    let plain = rw c.split_at.ensures.back at c.in-Plain.ensures in
    let inv = c.loop-at.invariant in
    record {
      within = omega (arith, plain.within, length-drop c.loop-at.at c.args.text.now);
      behind = behind_more c.args.quote c.args.text.now c.loop-at.at inv.behind inv.before c.in-Plain.n plain;
      before = before_more c.args.quote c.args.text.now c.loop-at.at inv.behind inv.before c.in-Plain.n plain;
    }

pub returns-in-Close-clause-some : goal.returns-in-Close-clause-some
returns-in-Close-clause-some c = (omega arith, closes_now c.args.quote c.args.text.now c.loop-at.at c.loop-at.invariant.behind c.loop-at.invariant.before (rw c.split_at.ensures.back at c.in-Close.ensures))

pub returns-in-Neither-clause-none : goal.returns-in-Neither-clause-none
returns-in-Neither-clause-none c = never c.args.quote c.args.text.now c.loop-at.at c.loop-at.invariant.behind c.loop-at.invariant.before (rw c.split_at.ensures.back at c.in-Neither.ensures)

pub returns-clause-none : goal.returns-clause-none
returns-clause-none c = never c.args.quote c.args.text.now c.loop-at.at c.loop-at.invariant.behind c.loop-at.invariant.before (no_more c.args.quote c.args.text.now c.loop-at.at (omega arith))
