use Rattle.std.proofs.Common.{sym, ◌∙◌}
use Rattle.uc_problem.proofs.Growth.{agrees_later}
use Rattle.uc_problem.proofs.OpenGoals.{first_is_position, none_too_large, has_goal}
use Rattle.uc_problem.proofs.FreshMarks.{are_fresh, signature_has, all_later, marks_later}
use Rattle.uc_problem.proofs.marking.marks.Goals as goal

pub returns-in-Some-clause-marked : goal.returns-in-Some-clause-marked
returns-in-Some-clause-marked c = λ T g.
    sym (first_is_position c.args.problem.now.clauses c.args.problem.now.goals c.requires.goals) ∙ sym (rw (c.as_slice-clauses.ensures, c.as_slice.ensures) at c.first_too_large.ensures) ∙ c.in-Some.is

pub new_marks-requires : goal.new_marks-requires
new_marks-requires c = signature_has c.args.symbols.now c.args.problem.now c.requires

pub returns-clause-marked : goal.returns-clause-marked
returns-clause-marked c = λ T g. (
  sym (rw c.as_slice-clauses.ensures at c.has_open_goal.ensures) ∙ c.if-not-has_open_goal.false,
  none_too_large c.args.problem.now.clauses c.args.problem.now.goals c.requires.goals (sym (rw (c.as_slice-clauses.ensures, c.as_slice.ensures) at c.first_too_large.ensures) ∙ c.in_default.is),
  marks_later c.new_marks.new.symbols T c.args.problem.now c.in_ok-new_marks.field-0 g (all_later c.args.symbols.now c.new_marks.new.symbols c.args.problem.now.signature.symbols c.in_ok-new_marks.ensures.grows (signature_has c.args.symbols.now c.args.problem.now c.requires)) c.in_ok-new_marks.ensures.marks,
)

pub returns-clause-fresh : goal.returns-clause-fresh
returns-clause-fresh c = are_fresh c.new_marks.new.symbols c.args.problem.now c.in_ok-new_marks.field-0 (agrees_later c.args.symbols.now c.new_marks.new.symbols c.in_ok-new_marks.ensures.grows c.args.problem.now c.requires) c.in_ok-new_marks.ensures.marks

pub returns-clause-has_goal : goal.returns-clause-has_goal
returns-clause-has_goal c = has_goal c.args.problem.now.clauses (sym (rw c.as_slice-clauses.ensures at c.has_open_goal.ensures) ∙ c.if-not-has_open_goal.false)
