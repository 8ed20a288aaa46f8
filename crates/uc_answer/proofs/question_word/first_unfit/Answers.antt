use Rattle.std.proofs.Common.{◌+◌, length, Some, sym, ap, ◌∙◌, arith}
use Rattle.uc_term.specs.Flat.{flat}
use Rattle.uc_answer.specs.QuestionWords.{is_unfit}
use Rattle.uc_answer.proofs.Questions.{first_of_left, first_of_right, first_of_neither, position_within}
use Rattle.uc_answer.proofs.question_word.first_unfit.Goals as goal

pub returns-in-Some : goal.returns-in-Some
returns-in-Some c = sym (first_of_left (is_unfit c.args.known.now) (flat c.args.sides.now.0) (flat c.args.sides.now.1) c.in-Some.number (rw c.as_nodes-left.ensures.value at (sym c.first_in.ensures ∙ c.in-Some.is)))

pub returns-in_err-number : goal.returns-in_err-number
returns-in_err-number c = c.from_residual.ensures ∙ sym (first_of_neither (is_unfit c.args.known.now) (flat c.args.sides.now.0) (flat c.args.sides.now.1) (rw c.as_nodes-left.ensures.value at (sym c.first_in.ensures ∙ c.in_default.is)) (rw c.as_nodes-right.ensures.value at (sym c.first_in-2.ensures ∙ c.in_err-number.was)))

pub overflow_add-result : goal.overflow_add-result
overflow_add-result c = omega (arith, c.as_nodes-left.ensures.short, c.as_nodes-right.ensures.short, position_within (is_unfit c.args.known.now) c.as_nodes-right.result.now c.in_ok-number.number (sym c.first_in-2.ensures ∙ c.in_ok-number.was))

pub returns : goal.returns
returns c = ap (λ ns. Some (length ns + c.in_ok-number.number)) c.as_nodes-left.ensures.value ∙ sym (first_of_right (is_unfit c.args.known.now) (flat c.args.sides.now.0) (flat c.args.sides.now.1) c.in_ok-number.number (rw c.as_nodes-left.ensures.value at (sym c.first_in.ensures ∙ c.in_default.is)) (rw c.as_nodes-right.ensures.value at (sym c.first_in-2.ensures ∙ c.in_ok-number.was)))
