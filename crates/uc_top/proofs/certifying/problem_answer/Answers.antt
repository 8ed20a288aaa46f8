use Rattle.std.proofs.Common.{[]}
use Rattle.uc_top.specs.CertifyAnswers.{IsCertifiedAnswer}
use Rattle.uc_top.proofs.CertifiedAnswers.{refused_answers}
use Rattle.uc_top.proofs.CertifyCompleting.{refusal_certified, certified_passed}
use Rattle.uc_top.proofs.Faulted.{none_failed}
use Rattle.uc_top.proofs.certifying.problem_answer.Goals as goal

pub returns-in-Refused-clause-answers : goal.returns-in-Refused-clause-answers
returns-in-Refused-clause-answers g c = refused_answers IsCertifiedAnswer _ _ _ c.args.file.now c.args.symbols.now c.args.problem.now refusal_certified c.in-Refused.answer.status _ (rw c.in-Refused.is at c.in_ok-answer.ensures.tested)

pub returns-in-Passed-clause-answers : goal.returns-in-Passed-clause-answers
returns-in-Passed-clause-answers g c = certified_passed _ _ _ c.args.file.now c.args.symbols.now c.args.problem.now c.test_certificate.new.symbols c.in-Passed.certificate c.certified_answer.result (rw c.in-Passed.is at c.in_ok-answer.ensures.tested) c.certified_answer.ensures

pub returns-in-Passed-clause-faulted : goal.returns-in-Passed-clause-faulted
returns-in-Passed-clause-faulted g c = none_failed (g.L.Library.faults c.args.library.now) (g.L.Library.faults c.test_certificate.new.library) (g.L.Library.failed_at c.args.library.now) (g.L.Library.failed_at c.test_certificate.new.library) [] c.certified_answer.result (rw c.in-Passed.is at c.in_ok-answer.ensures.faulted)
