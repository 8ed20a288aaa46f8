use Rattle.std.proofs.Common.{arith, subst}
use Rattle.uc_tstp.specs.Bounds.{IsBoundedLine}
use Rattle.uc_tstp.proofs.Seen.{one_more, all_seen}
use Rattle.uc_certificate.proofs.bounds.see_lines.Goals as goal

pub loop-line-preserved : goal.loop-line-preserved
loop-line-preserved c = one_more IsBoundedLine c.args.lines.now c.loop-line.line-index c.line-item.result c.loop-line-test.true c.loop-line.invariant (subst IsBoundedLine c.line-item.is c.see_line.ensures)

pub returns : goal.returns
returns c = all_seen IsBoundedLine c.args.lines.now c.loop-line.line-index (omega arith) c.loop-line.invariant
