use Rattle.uc_ordering.specs.Meaning.{meaning_of}
use Rattle.uc_answer.specs.VerdictLines.{opening_for}
use Rattle.uc_answer.proofs.LargeLines.{searched_large}
use Rattle.uc_answer.proofs.ProveKeeping.{out_status}
use Rattle.uc_answer.proofs.VerdictTold.{proved_told, proved_promised, out_told, out_promised}
use Rattle.uc_answer.proofs.verdict_lines.verdict_lines.Goals as goal

pub returns-in-Proved-clause-answers : goal.returns-in-Proved-clause-answers
returns-in-Proved-clause-answers g c = rw c.in-Proved.is (proved_told c.args.closed.now.symbols.now c.args.closed.now.command.now c.args.closed.now.name.now c.args.closed.now.problem.now c.args.closed.now.encoded.now c.args.closed.now.spec.now c.args.book.now.state c.in-Proved.goal c.proved_lines.result c.proved_lines.ensures)

pub returns-in-Proved-clause-promise : goal.returns-in-Proved-clause-promise
returns-in-Proved-clause-promise g c = rw c.in-Proved.is (proved_promised c.args.closed.now.symbols.now c.args.closed.now.command.now c.args.closed.now.name.now c.args.closed.now.problem.now c.args.closed.now.encoded.now c.args.closed.now.spec.now c.args.book.now.state c.in-Proved.goal c.proved_lines.result (rw c.in-Proved.is at c.requires.ended) c.proved_lines.ensures)

pub returns-in-Saturated-clause-answers : goal.returns-in-Saturated-clause-answers
returns-in-Saturated-clause-answers g c = rw c.in-Saturated.is c.saturated_lines.ensures.answers

pub returns-in-Saturated-clause-promise : goal.returns-in-Saturated-clause-promise
returns-in-Saturated-clause-promise g c = rw c.in-Saturated.is c.saturated_lines.ensures.promise

pub out_lines-requires-clause-large : goal.out_lines-requires-clause-large
out_lines-requires-clause-large g c = searched_large (meaning_of c.args.closed.now.symbols.now c.args.closed.now.spec.now) (opening_for c.args.closed.now.command.now c.args.closed.now.encoded.now) c.args.book.now.state c.args.verdict c.requires.ended.searched

pub returns-in_default-clause-answers : goal.returns-in_default-clause-answers
returns-in_default-clause-answers g c = out_told c.args.closed.now.symbols.now c.args.closed.now.command.now c.args.closed.now.name.now c.args.closed.now.problem.now c.args.closed.now.encoded.now c.args.closed.now.spec.now c.args.book.now.state c.args.verdict c.out_lines.result c.out_lines.ensures

pub returns-in_default-clause-promise : goal.returns-in_default-clause-promise
returns-in_default-clause-promise g c = out_promised c.args.closed.now.symbols.now c.args.closed.now.command.now c.args.closed.now.name.now c.args.closed.now.problem.now c.args.closed.now.encoded.now c.args.closed.now.spec.now c.args.book.now.state c.args.verdict c.out_lines.result (out_status c.args.verdict c.in_default.not-Proved c.in_default.not-Saturated) c.requires.ended c.out_lines.ensures
