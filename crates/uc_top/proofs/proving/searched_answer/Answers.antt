use Rattle.std.proofs.Common.{refl}
use Rattle.uc_book.specs.Openings.{opening_of}
use Rattle.uc_ordering.specs.Chosen.{chosen_meaning, meaning_is}
use Rattle.uc_top.proofs.ProvedAnswers.{searched, searched_promises, ended}
use Rattle.uc_top.proofs.proving.searched_answer.Goals as goal

pub verdict_answer-requires-clause-ended : goal.verdict_answer-requires-clause-ended
verdict_answer-requires-clause-ended g c = ended c.args.symbols.now c.args.command.now c.args.name.now c.args.problem.now c.args.encoded.now c.args.spec.now c.in_ok-searched.searched.verdict c.in_ok-searched.searched.book.state (chosen_meaning c.in_ok-order.order) (opening_of c.in_ok-searched.searched.book.opening) c.requires.agrees c.requires.encodes c.requires.chosen c.requires.fits (meaning_is c.args.symbols.now c.args.spec.now c.in_ok-order.order c.in_ok-order.ensures.order) (rw c.in_ok-searched.ensures.opening refl) c.in_ok-searched.ensures.searched

pub returns-clause-answers : goal.returns-clause-answers
returns-clause-answers g c = λ loaded i. searched c.args.symbols.now c.args.command.now c.args.name.now c.args.problem.now c.args.encoded.now c.args.spec.now c.in_ok-searched.searched.verdict c.in_ok-searched.searched.book.state loaded c.verdict_answer.result i (ended c.args.symbols.now c.args.command.now c.args.name.now c.args.problem.now c.args.encoded.now c.args.spec.now c.in_ok-searched.searched.verdict c.in_ok-searched.searched.book.state (chosen_meaning c.in_ok-order.order) (opening_of c.in_ok-searched.searched.book.opening) c.requires.agrees c.requires.encodes c.requires.chosen c.requires.fits (meaning_is c.args.symbols.now c.args.spec.now c.in_ok-order.order c.in_ok-order.ensures.order) (rw c.in_ok-searched.ensures.opening refl) c.in_ok-searched.ensures.searched) c.verdict_answer.ensures.status c.verdict_answer.ensures.answers

pub returns-clause-promise : goal.returns-clause-promise
returns-clause-promise g c = searched_promises c.args.symbols.now c.args.command.now c.args.name.now c.args.problem.now c.args.encoded.now c.args.spec.now c.in_ok-searched.searched.verdict c.in_ok-searched.searched.book.state c.verdict_answer.result c.verdict_answer.ensures.status c.verdict_answer.ensures.promise
