use Rattle.uc_answer.specs.VerdictLines.{opening_for}
use Rattle.uc_top.proofs.DecidedAnswers.{told_by}
use Rattle.uc_top.proofs.deciding.told_answer.Goals as goal

pub closed_answer-requires-clause-over : goal.closed_answer-requires-clause-over
closed_answer-requires-clause-over g c κs within = rw c.in_ok-searched.ensures.opening c.requires.over

pub returns : goal.returns
returns g c = told_by c.args.asked.now.symbols.now (g.O.Order.meaning c.args.order.now) c.args.asked.now.command.now c.args.asked.now.name.now c.args.encoded.now.axioms c.args.asked.now.questions.now (opening_for c.args.asked.now.command.now c.args.encoded.now) c.in_ok-searched.searched.verdict c.in_ok-searched.searched.book.state c.closed_answer.result (rw c.in_ok-searched.ensures.opening at c.in_ok-searched.ensures.searched) (rw c.in_ok-searched.ensures.opening at c.closed_answer.ensures)
