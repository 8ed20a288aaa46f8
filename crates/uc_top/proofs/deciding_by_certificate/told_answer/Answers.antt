use Rattle.uc_ordering.specs.Chosen.{chosen_meaning, meaning_is}
use Rattle.uc_top.proofs.AskedAnswers.{facts_over_by, of_table_by, ground_by, decides_by, replied_by}
use Rattle.uc_top.proofs.deciding_by_certificate.told_answer.Goals as goal

pub new-requires : goal.new-requires
new-requires g c = rw c.precedence.ensures c.requires.system.fits

pub replied_answer-requires-clause-over : goal.replied_answer-requires-clause-over
replied_answer-requires-clause-over g c κs within = facts_over_by c.args.symbols.now c.args.certificate.now c.requires.system (chosen_meaning c.in_ok-order.order) (meaning_is c.args.symbols.now c.args.certificate.now.text.spec c.in_ok-order.order c.in_ok-order.ensures.order)

pub replied_answer-requires-clause-ground : goal.replied_answer-requires-clause-ground
replied_answer-requires-clause-ground g c κs within = ground_by c.args.symbols.now c.args.certificate.now c.requires.system (chosen_meaning c.in_ok-order.order) (meaning_is c.args.symbols.now c.args.certificate.now.text.spec c.in_ok-order.order c.in_ok-order.ensures.order) c.args.questions.now c.requires.ground

pub replied_answer-requires-clause-of_table : goal.replied_answer-requires-clause-of_table
replied_answer-requires-clause-of_table g c κs within = of_table_by c.args.symbols.now c.args.certificate.now c.requires.system (chosen_meaning c.in_ok-order.order) (meaning_is c.args.symbols.now c.args.certificate.now.text.spec c.in_ok-order.order c.in_ok-order.ensures.order)

pub replied_answer-requires-clause-decides : goal.replied_answer-requires-clause-decides
replied_answer-requires-clause-decides g c κs within = decides_by c.args.symbols.now c.args.certificate.now c.requires.system (chosen_meaning c.in_ok-order.order) (meaning_is c.args.symbols.now c.args.certificate.now.text.spec c.in_ok-order.order c.in_ok-order.ensures.order) c.requires.decides

pub returns : goal.returns
returns g c =
    let d = decides_by c.args.symbols.now c.args.certificate.now c.requires.system (chosen_meaning c.in_ok-order.order) (meaning_is c.args.symbols.now c.args.certificate.now.text.spec c.in_ok-order.order c.in_ok-order.ensures.order) c.requires.decides in
    replied_by c.args.symbols.now c.args.certificate.now c.requires.system (chosen_meaning c.in_ok-order.order) (meaning_is c.args.symbols.now c.args.certificate.now.text.spec c.in_ok-order.order c.in_ok-order.ensures.order) d.0 c.args.command.now.steps c.args.questions.now c.replied_answer.result (c.replied_answer.ensures d.0 d.1)
