use Rattle.std.proofs.Common.{sym, subst, arith}
use Rattle.uc_term.specs.Table.{Table}
use Rattle.uc_ordering.specs.Fits.{Fits}
use Rattle.uc_problem.proofs.FreshMarks.{signature_has}
use Rattle.uc_problem.proofs.Growth.{agrees_later}
use Rattle.uc_answer.proofs.GroundQuestions.{questions_ground}
use Rattle.uc_top.proofs.DecidedAnswers.{unordered, misread, refused_promises, told_answers, told_promises}
use Rattle.uc_top.proofs.OwnSignatures.{is_signature}
use Rattle.uc_top.proofs.deciding.asked_answer.Goals as goal

pub choose-requires-clause-signature : goal.choose-requires-clause-signature
choose-requires-clause-signature g c = is_signature c.args.symbols.now c.args.problem.now c.requires.agrees

pub searched_answer-requires-clause-agrees : goal.searched_answer-requires-clause-agrees
searched_answer-requires-clause-agrees g c κs within = agrees_later c.args.symbols.now c.read_questions.new.symbols c.read_questions.ensures.grows c.args.problem.now c.requires.agrees

pub searched_answer-requires-clause-fits : goal.searched_answer-requires-clause-fits
searched_answer-requires-clause-fits g c κs within = subst (λ (t : Table). Fits t c.args.problem.now.signature.symbols c.in-Ok.spec) (sym (c.in-Ok-read_questions.ensures.kept (rw c.as_slice-known.ensures (signature_has c.args.symbols.now c.args.problem.now c.requires.agrees)))) c.in-Ok.ensures.fits

pub searched_answer-requires-clause-ground : goal.searched_answer-requires-clause-ground
searched_answer-requires-clause-ground g c κs within = rw c.as_slice-questions.ensures (questions_ground c.read_questions.new.symbols c.args.problem.now.signature.symbols c.in-Ok.spec (subst (λ (t : Table). Fits t c.args.problem.now.signature.symbols c.in-Ok.spec) (sym (c.in-Ok-read_questions.ensures.kept (rw c.as_slice-known.ensures (signature_has c.args.symbols.now c.args.problem.now c.requires.agrees)))) c.in-Ok.ensures.fits) (rw c.as_slice-known.ensures at c.in-Ok-read_questions.ensures.reads))

pub returns-in-Ok-read_questions-clause-answers : goal.returns-in-Ok-read_questions-clause-answers
returns-in-Ok-read_questions-clause-answers g c = told_answers c.args.symbols.now c.args.command.now c.args.name.now c.args.words.now c.args.problem.now c.read_questions.new.symbols (c.in-Ok-read_questions.ensures.kept (rw c.as_slice-known.ensures (signature_has c.args.symbols.now c.args.problem.now c.requires.agrees))) c.in-Ok.spec c.in-Ok-read_questions.asked c.in-Ok.ensures.ok (rw c.as_slice-known.ensures at c.in-Ok-read_questions.ensures.reads) c.searched_answer.result (rw c.as_slice-questions.ensures at c.searched_answer.ensures)

pub returns-in-Ok-read_questions-clause-promise : goal.returns-in-Ok-read_questions-clause-promise
returns-in-Ok-read_questions-clause-promise g c = told_promises c.args.symbols.now c.args.command.now c.args.name.now c.args.words.now c.args.problem.now c.read_questions.new.symbols (c.in-Ok-read_questions.ensures.kept (rw c.as_slice-known.ensures (signature_has c.args.symbols.now c.args.problem.now c.requires.agrees))) c.in-Ok.spec c.in-Ok-read_questions.asked c.in-Ok.ensures.ok (rw c.as_slice-known.ensures at c.in-Ok-read_questions.ensures.reads) c.searched_answer.result (rw c.as_slice-questions.ensures at c.searched_answer.ensures)

pub returns-in-Ok-clause-answers : goal.returns-in-Ok-clause-answers
returns-in-Ok-clause-answers g c = misread c.args.symbols.now c.args.command.now c.args.name.now c.args.words.now c.args.problem.now c.in-Ok.spec c.in-Err-read_questions.misread.number c.in-Err-read_questions.misread.fault c.word_answer.result c.in-Ok.ensures.ok ((rw c.as_slice-known.ensures at c.in-Err-read_questions.ensures.refused) (signature_has c.args.symbols.now c.args.problem.now c.requires.agrees)) c.word_answer.ensures.answer c.word_answer.ensures.not_memory

pub returns-in-Ok-clause-promise : goal.returns-in-Ok-clause-promise
returns-in-Ok-clause-promise g c = refused_promises c.args.symbols.now c.args.command.now c.args.name.now c.args.words.now c.args.problem.now 3 _ c.word_answer.result (omega arith) c.word_answer.ensures.answer

pub returns-clause-answers : goal.returns-clause-answers
returns-clause-answers g c = unordered c.args.symbols.now c.args.command.now c.args.name.now c.args.words.now c.args.problem.now c.in-Err.fault c.choice_answer.result c.in-Err.ensures.err c.choice_answer.ensures.answer c.choice_answer.ensures.not_memory

pub returns-clause-promise : goal.returns-clause-promise
returns-clause-promise g c = refused_promises c.args.symbols.now c.args.command.now c.args.name.now c.args.words.now c.args.problem.now 4 _ c.choice_answer.result (omega arith) c.choice_answer.ensures.answer
