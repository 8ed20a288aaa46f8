use Rattle.std.proofs.Common.{ap}
use Rattle.uc_problem.specs.declared.problem.Encoded.{Encoded}
use Rattle.uc_ordering.specs.Chosen.{chosen_meaning, meaning_is}
use Rattle.uc_top.proofs.DecidedAnswers.{axioms_over, ground_by, ground_of_table, told_for}
use Rattle.uc_top.proofs.deciding.searched_answer.Goals as goal

pub told_answer-requires-clause-no_goals : goal.told_answer-requires-clause-no_goals
told_answer-requires-clause-no_goals g c κs within = ap (λ (x : Encoded). x.goals) c.in_ok-encoded.ensures

pub told_answer-requires-clause-over : goal.told_answer-requires-clause-over
told_answer-requires-clause-over g c κs within = axioms_over c.args.symbols.now c.args.problem.now c.args.spec.now c.requires.fits (chosen_meaning c.in_ok-order.order) (meaning_is c.args.symbols.now c.args.spec.now c.in_ok-order.order c.in_ok-order.ensures.order) c.requires.agrees c.in_ok-encoded.encoded.axioms (ap (λ (x : Encoded). x.axioms) c.in_ok-encoded.ensures)

pub told_answer-requires-clause-ground : goal.told_answer-requires-clause-ground
told_answer-requires-clause-ground g c κs within = ground_by c.args.symbols.now c.args.problem.now c.args.spec.now c.requires.fits (chosen_meaning c.in_ok-order.order) (meaning_is c.args.symbols.now c.args.spec.now c.in_ok-order.order c.in_ok-order.ensures.order) c.args.questions.now c.requires.ground

pub told_answer-requires-clause-of_table : goal.told_answer-requires-clause-of_table
told_answer-requires-clause-of_table g c κs within = ground_of_table c.args.symbols.now c.args.problem.now c.args.spec.now c.requires.fits (chosen_meaning c.in_ok-order.order) (meaning_is c.args.symbols.now c.args.spec.now c.in_ok-order.order c.in_ok-order.ensures.order)

pub returns : goal.returns
returns g c = told_for c.args.symbols.now c.args.problem.now c.args.spec.now c.requires.fits (chosen_meaning c.in_ok-order.order) (meaning_is c.args.symbols.now c.args.spec.now c.in_ok-order.order c.in_ok-order.ensures.order) c.args.command.now c.args.name.now c.args.questions.now c.in_ok-encoded.encoded c.told_answer.result c.in_ok-encoded.ensures c.told_answer.ensures
