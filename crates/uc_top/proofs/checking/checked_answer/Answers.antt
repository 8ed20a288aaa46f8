use Rattle.uc_top.specs.Answers.{TextAnswers, is_checked}
use Rattle.uc_top.proofs.Answering.{one_line}
use Rattle.uc_top.proofs.checking.checked_answer.Goals as goal

pub returns-clause-answers : goal.returns-clause-answers
returns-clause-answers c name text table read i r = one_line c.of_line.result (TextAnswers table c.args.clauses.now _ name text) _ _ c.of_line.ensures (rw (c.checked_status.ensures, c.in_ok-line.ensures, c.as_slice.ensures) (is_checked i r c.in_ok-checked.ensures.checked))
