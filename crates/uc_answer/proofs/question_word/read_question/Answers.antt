use Rattle.std.proofs.Common.{sym, ◌∙◌}
use Rattle.std.proofs.lemmas.Result.{err_from_is_err_and}
use Rattle.uc_answer.proofs.GroundQuestions.{question_keeps}
use Rattle.uc_answer.proofs.Questions.{unfit_within}
use Rattle.uc_answer.proofs.question_word.read_question.Goals as goal

pub returns-in_err-sides-clause-refused : goal.returns-in_err-sides-clause-refused
returns-in_err-sides-clause-refused c =
    let p = err_from_is_err_and c.from_residual.result c.from_residual.ensures.1 in
    rw (p.1, p.2) (c.in_err-sides.ensures.refused c.args.known.now)

pub fault_at-requires-clause-within : goal.fault_at-requires-clause-within
fault_at-requires-clause-within c = unfit_within c.args.known.now c.in_ok-sides.sides c.in-Some.number (sym c.first_unfit.ensures ∙ c.in-Some.is)

pub returns-in_ok-fault_at-in-Some-clause-refused : goal.returns-in_ok-fault_at-in-Some-clause-refused
returns-in_ok-fault_at-in-Some-clause-refused c = c.in_ok-fault_at-in-Some.ensures c.args.known.now c.args.symbols.now c.in_ok-sides.ensures.interns (sym c.first_unfit.ensures ∙ c.in-Some.is)

pub returns-in-None-clause-kept : goal.returns-in-None-clause-kept
returns-in-None-clause-kept c = λ has. question_keeps c.args.symbols.now c.whole_equation.new.symbols c.args.known.now c.in_ok-sides.ensures.grows has c.args.word.now c.in_ok-sides.sides c.whole_equation.new.symbols c.in_ok-sides.ensures.interns (record { reads = c.in_ok-sides.ensures.reads; is_fit = sym c.first_unfit.ensures ∙ c.in-None.is })
