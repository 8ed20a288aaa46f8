use Rattle.std.proofs.lemmas.Result.{on_ok_weaker}
use Rattle.uc_answer.proofs.TraceTexts.{told_so, behind}
use Rattle.uc_answer.proofs.trace_lines.write_happening.Goals as goal

pub returns-in_ok-write_named-in-CommitJoined : goal.returns-in_ok-write_named-in-CommitJoined
returns-in_ok-write_named-in-CommitJoined c = rw c.in-CommitJoined.is (on_ok_weaker c.extend.result (λ e. behind _ _ _ _ _ e c.in_ok-write_named-in-CommitJoined.ensures) (told_so _ c.extend.result c.extend.ensures.ok))

pub returns-in_ok-write_named-in-CommitKept : goal.returns-in_ok-write_named-in-CommitKept
returns-in_ok-write_named-in-CommitKept c = rw c.in-CommitKept.is (on_ok_weaker c.write_named-in-CommitKept-2.result (λ e. behind _ _ _ _ _ e c.in_ok-write_named-in-CommitKept.ensures) c.write_named-in-CommitKept-2.ensures)

pub returns-in-CommitLate : goal.returns-in-CommitLate
returns-in-CommitLate c = rw c.in-CommitLate.is (told_so _ c.extend-in-CommitLate.result c.extend-in-CommitLate.ensures.ok)

pub returns-in-AuditKept : goal.returns-in-AuditKept
returns-in-AuditKept c = rw c.in-AuditKept.is c.write_named-in-AuditKept.ensures
