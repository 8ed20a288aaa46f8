use Rattle.std.proofs.Common.{arith, subst}
use Rattle.uc_certificate.specs.Bounds.{IsBoundedCase}
use Rattle.uc_tstp.proofs.Seen.{one_more, all_seen}
use Rattle.uc_certificate.proofs.bounds.see_cases.Goals as goal

pub loop-case-preserved : goal.loop-case-preserved
loop-case-preserved c = one_more IsBoundedCase c.args.cases.now c.loop-case.case-index c.case-item.result c.loop-case-test.true c.loop-case.invariant (subst IsBoundedCase c.case-item.is c.see_case.ensures)

pub returns : goal.returns
returns c = all_seen IsBoundedCase c.args.cases.now c.loop-case.case-index (omega arith) c.loop-case.invariant
