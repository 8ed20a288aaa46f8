use Rattle.std.proofs.Common.{[]}
use Rattle.uc_top.specs.SystemAnswers.{IsAskedCertificate}
use Rattle.uc_top.proofs.AskedAnswers.{passed_agrees, passed_system, passed_own, passed_decides, asked_answers}
use Rattle.uc_top.proofs.CertifiedAnswers.{refused_answers}
use Rattle.uc_top.proofs.SystemOnce.{refusal_asked}
use Rattle.uc_top.proofs.Faulted.{none_failed}
use Rattle.uc_top.proofs.deciding_by_certificate.problem_answer.Goals as goal

pub asked_answer-requires-clause-agrees : goal.asked_answer-requires-clause-agrees
asked_answer-requires-clause-agrees g c κs within = passed_agrees c.args.symbols.now c.args.problem.now c.requires.agrees _ c.args.file.now c.test_certificate.new.symbols c.in-Passed.certificate (rw c.in-Passed.is at c.in_ok-answer.ensures.tested)

pub asked_answer-requires-clause-system : goal.asked_answer-requires-clause-system
asked_answer-requires-clause-system g c κs within = passed_system c.args.symbols.now c.args.problem.now c.requires.agrees _ c.args.file.now c.test_certificate.new.symbols c.in-Passed.certificate (rw c.in-Passed.is at c.in_ok-answer.ensures.tested)

pub asked_answer-requires-clause-own : goal.asked_answer-requires-clause-own
asked_answer-requires-clause-own g c κs within = passed_own c.args.symbols.now c.args.problem.now c.requires.agrees _ c.args.file.now c.test_certificate.new.symbols c.in-Passed.certificate (rw c.in-Passed.is at c.in_ok-answer.ensures.tested)

pub asked_answer-requires-clause-decides : goal.asked_answer-requires-clause-decides
asked_answer-requires-clause-decides g c κs within = passed_decides c.args.symbols.now c.args.problem.now c.requires.agrees _ c.args.file.now c.test_certificate.new.symbols c.in-Passed.certificate (rw c.in-Passed.is at c.in_ok-answer.ensures.tested)

pub returns-in-Refused-clause-answers : goal.returns-in-Refused-clause-answers
returns-in-Refused-clause-answers g c = refused_answers (IsAskedCertificate c.args.command.now.steps c.args.words.now c.args.problem.now) _ _ _ c.args.file.now c.args.symbols.now c.args.problem.now (refusal_asked c.args.command.now.steps c.args.words.now c.args.problem.now) c.in-Refused.answer.status _ (rw c.in-Refused.is at c.in_ok-answer.ensures.tested)

pub returns-in-Passed-clause-answers : goal.returns-in-Passed-clause-answers
returns-in-Passed-clause-answers g c = asked_answers c.args.command.now.steps c.args.words.now _ _ _ c.args.file.now c.args.symbols.now c.args.problem.now c.test_certificate.new.symbols c.in-Passed.certificate c.asked_answer.result (rw c.in-Passed.is at c.in_ok-answer.ensures.tested) c.asked_answer.ensures

pub returns-in-Passed-clause-faulted : goal.returns-in-Passed-clause-faulted
returns-in-Passed-clause-faulted g c = none_failed (g.L.Library.faults c.args.library.now) (g.L.Library.faults c.test_certificate.new.library) (g.L.Library.failed_at c.args.library.now) (g.L.Library.failed_at c.test_certificate.new.library) [] c.asked_answer.result (rw c.in-Passed.is at c.in_ok-answer.ensures.faulted)
