use Rattle.uc_answer.specs.Lines.{joined}
use Rattle.uc_answer.specs.VerdictLines.{verdict_status, trace_if}
use Rattle.uc_answer.proofs.VerdictTold.{told_more}
use Rattle.uc_answer.proofs.verdict_lines.verdict_answer.Goals as goal

pub returns-clause-promise : goal.returns-clause-promise
returns-clause-promise g c = told_more c.args.closed.now.symbols.now c.args.closed.now.command.now c.args.closed.now.name.now c.args.closed.now.problem.now (verdict_status c.args.verdict) (joined c.in_ok-lines.lines) (trace_if c.args.closed.now.command.now c.args.book.now.state) (joined c.in_ok-traced.field-0) c.in_ok-traced.ensures c.in_ok-lines.ensures.promise
