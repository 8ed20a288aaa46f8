use Rattle.std.proofs.Common.{[], arith}
use Rattle.uc_top.proofs.HandingOn.{refused_for, refused_high}
use Rattle.uc_top.proofs.Faulted.{later_failed}
use Rattle.uc_top.proofs.Answering.{loaded_answers, loaded_certified}
use Rattle.uc_top.proofs.checking.check_answer.Goals as goal

pub returns-in-Refused-clause-answers : goal.returns-in-Refused-clause-answers
returns-in-Refused-clause-answers g c = refused_for _ _ _ _ c.args.name.now _ (rw c.in-Refused.is at c.in_ok-answer.ensures.handed)

pub returns-in-Held-clause-answers : goal.returns-in-Held-clause-answers
returns-in-Held-clause-answers g c = loaded_answers c.in-Held.symbols c.problem_answer-answer.new.symbols _ _ _ _ _ _ c.args.name.now c.args.proof.now c.in-Held.problem (rw c.in-Held.is at c.in_ok-answer.ensures.handed) c.problem_answer-answer.result c.load_problem.ensures.same c.load_problem.ensures.later c.problem_answer-answer.ensures.answers c.len.ensures.distinct

pub returns-in-Held-clause-faulted : goal.returns-in-Held-clause-faulted
returns-in-Held-clause-faulted g c = later_failed _ _ [] c.problem_answer-answer.result (rw c.in-Held.is at c.in_ok-answer.ensures.faulted) c.problem_answer-answer.ensures.faulted

pub returns-in-Refused-clause-certified : goal.returns-in-Refused-clause-certified
returns-in-Refused-clause-certified g c = λ done. absurd (omega (arith, done, refused_high _ _ _ _ c.args.name.now (rw c.in-Refused.is at c.in_ok-answer.ensures.handed)))

pub returns-in-Held-clause-certified : goal.returns-in-Held-clause-certified
returns-in-Held-clause-certified g c = loaded_certified c.in-Held.symbols c.problem_answer-answer.new.symbols _ _ 0 _ _ _ c.args.name.now c.args.proof.now c.in-Held.problem (rw c.in-Held.is at c.in_ok-answer.ensures.handed) c.problem_answer-answer.result c.load_problem.ensures.same c.problem_answer-answer.ensures.answers c.problem_answer-answer.ensures.follows c.len.ensures.distinct
