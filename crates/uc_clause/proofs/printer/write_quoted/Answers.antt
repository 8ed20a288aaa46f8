use Rattle.uc_clause.proofs.Spelling.{escaped_more}
use Rattle.uc_clause.proofs.printer.write_quoted.Goals as goal

pub loop-b-preserved : goal.loop-b-preserved
loop-b-preserved c = escaped_more c.args.word.now c.loop-b.b-index c.loop-b.out _ _ c.loop-b-test.true c.loop-b.invariant c.in_ok-write_escaped.ensures
