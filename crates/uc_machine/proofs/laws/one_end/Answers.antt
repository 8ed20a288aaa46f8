use Rattle.uc_machine.proofs.OneCall.{one_audit, one_close, one_start}
use Rattle.uc_machine.proofs.laws.one_end.Goals as goal

pub returns-clause-audit : goal.returns-clause-audit
returns-clause-audit c = one_audit

pub returns-clause-close : goal.returns-clause-close
returns-clause-close c = one_close

pub returns-clause-start : goal.returns-clause-start
returns-clause-start c = one_start
