use Rattle.uc_answer.proofs.VerdictTold.{saturated_told, saturated_promised}
use Rattle.uc_answer.proofs.verdict_lines.saturated_lines.Goals as goal

pub returns-clause-answers : goal.returns-clause-answers
returns-clause-answers g c = saturated_told c.args.closed.now.symbols.now c.args.closed.now.command.now c.args.closed.now.name.now c.args.closed.now.problem.now c.args.closed.now.encoded.now c.args.closed.now.spec.now c.args.book.now.state c.in_ok-lines.lines c.in_ok-lines.ensures.lines c.certified.result c.certified.ensures

pub returns-clause-promise : goal.returns-clause-promise
returns-clause-promise g c = saturated_promised c.args.closed.now.symbols.now c.args.closed.now.command.now c.args.closed.now.name.now c.args.closed.now.problem.now c.args.closed.now.encoded.now c.args.closed.now.spec.now c.args.book.now.state c.in_ok-lines.lines c.in_ok-lines.ensures.lines c.certified.result c.requires.ended c.in_ok-lines.ensures.promise c.certified.ensures
