use Rattle.uc_book.specs.Openings.{opening_of}
use Rattle.uc_answer.proofs.LargeLines.{searched_large}
use Rattle.uc_answer.proofs.Saturation.{opens_without, facts_over, decided}
use Rattle.uc_top.proofs.DecidedAnswers.{replies_told, limit_told, limit_status}
use Rattle.uc_top.proofs.deciding.closed_answer.Goals as goal

pub replied_answer-requires-clause-over : goal.replied_answer-requires-clause-over
replied_answer-requires-clause-over g c κs within = rw (c.in_ok-system-in-Saturated.ensures, c.front.ensures.entries) (facts_over (g.O.Order.meaning c.args.order.now) ((g.met.O.Order g.world.𝓛 g.world.𝓜 g.world.𝓡 ((λ s x. x), (λ x. x), (λ x. x), λ x. x)).laws c.args.order.now) (opening_of c.args.book.now.opening) (opens_without (g.O.Order.meaning c.args.order.now) (opening_of c.args.book.now.opening) c.requires.over c.requires.no_goals) c.args.book.now.state (rw c.in-Saturated.is at c.requires.searched))

pub replied_answer-requires-clause-decides : goal.replied_answer-requires-clause-decides
replied_answer-requires-clause-decides g c κs within = (c.args.book.now.opening.problem.axioms, rw (c.in_ok-system-in-Saturated.ensures, c.front.ensures.entries) (decided (g.O.Order.meaning c.args.order.now) ((g.met.O.Order g.world.𝓛 g.world.𝓜 g.world.𝓡 ((λ s x. x), (λ x. x), (λ x. x), λ x. x)).laws c.args.order.now) (opening_of c.args.book.now.opening) (opens_without (g.O.Order.meaning c.args.order.now) (opening_of c.args.book.now.opening) c.requires.over c.requires.no_goals) c.args.book.now.state (rw c.in-Saturated.is at c.requires.searched)))

pub out_lines-requires-clause-large : goal.out_lines-requires-clause-large
out_lines-requires-clause-large g c = searched_large (g.O.Order.meaning c.args.order.now) (opening_of c.args.book.now.opening) c.args.book.now.state c.args.verdict c.requires.searched

pub out_lines-requires-clause-out : goal.out_lines-requires-clause-out
out_lines-requires-clause-out g c = limit_status (g.O.Order.meaning c.args.order.now) (opening_of c.args.book.now.opening) c.args.verdict c.args.book.now.state c.requires.searched c.requires.no_goals c.in_default.not-Saturated

pub returns-in_ok-system-in-Saturated : goal.returns-in_ok-system-in-Saturated
returns-in_ok-system-in-Saturated g c = rw c.in-Saturated.is (replies_told c.args.asked.now.symbols.now (g.O.Order.meaning c.args.order.now) c.args.asked.now.command.now c.args.asked.now.name.now c.args.book.now.opening.problem.axioms c.args.asked.now.questions.now c.args.book.now.state c.in_ok-system-in-Saturated.system.facts c.replied_answer.result (rw c.front.ensures.entries at c.in_ok-system-in-Saturated.ensures) (decided (g.O.Order.meaning c.args.order.now) ((g.met.O.Order g.world.𝓛 g.world.𝓜 g.world.𝓡 ((λ s x. x), (λ x. x), (λ x. x), λ x. x)).laws c.args.order.now) (opening_of c.args.book.now.opening) (opens_without (g.O.Order.meaning c.args.order.now) (opening_of c.args.book.now.opening) c.requires.over c.requires.no_goals) c.args.book.now.state (rw c.in-Saturated.is at c.requires.searched)) (c.replied_answer.ensures c.args.book.now.opening.problem.axioms))

pub returns-in_ok-out_lines-in_default : goal.returns-in_ok-out_lines-in_default
returns-in_ok-out_lines-in_default g c = limit_told c.args.asked.now.symbols.now (g.O.Order.meaning c.args.order.now) c.args.asked.now.command.now c.args.asked.now.name.now c.args.book.now.opening.problem.axioms c.args.asked.now.questions.now c.args.book.now.state c.args.verdict c.in_ok-out_lines-in_default.field-0 c.in_ok-out_lines-in_default.ensures
