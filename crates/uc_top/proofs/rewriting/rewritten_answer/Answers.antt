use Rattle.std.proofs.Common.{sym, subst}
use Rattle.uc_term.specs.Table.{Table}
use Rattle.uc_ordering.specs.Fits.{Fits}
use Rattle.uc_problem.proofs.FreshMarks.{signature_has}
use Rattle.uc_problem.proofs.Growth.{agrees_later}
use Rattle.uc_answer.proofs.TermWords.{term_of}
use Rattle.uc_top.proofs.OwnSignatures.{is_signature}
use Rattle.uc_top.proofs.RewrittenAnswers.{rewritten, no_term, unordered}
use Rattle.uc_top.proofs.rewriting.rewritten_answer.Goals as goal

pub choose-requires-clause-signature : goal.choose-requires-clause-signature
choose-requires-clause-signature c = is_signature c.args.symbols.now c.args.problem.now c.requires.agrees

pub normal_answer-requires-clause-agrees : goal.normal_answer-requires-clause-agrees
normal_answer-requires-clause-agrees c = agrees_later c.args.symbols.now c.read_word.new.symbols c.read_word.ensures.grows c.args.problem.now c.requires.agrees

pub normal_answer-requires-clause-fits : goal.normal_answer-requires-clause-fits
normal_answer-requires-clause-fits c =
    subst (λ (t : Table). Fits t c.args.problem.now.signature.symbols c.in-Ok.spec) (sym (c.in-Ok-read_word.ensures.kept (rw c.as_slice.ensures (signature_has c.args.symbols.now c.args.problem.now c.requires.agrees)))) c.in-Ok.ensures.fits

pub normal_answer-requires-clause-of_table : goal.normal_answer-requires-clause-of_table
normal_answer-requires-clause-of_table c = term_of c.args.word.now c.read_word.new.symbols c.in-Ok-read_word.term c.in-Ok-read_word.ensures.reads.reads

pub returns-in-Ok-read_word : goal.returns-in-Ok-read_word
returns-in-Ok-read_word c = rewritten c.args.symbols.now c.args.command.now.order c.args.command.now.limit c.args.word.now c.args.problem.now c.read_word.new.symbols (c.in-Ok-read_word.ensures.kept (rw c.as_slice.ensures (signature_has c.args.symbols.now c.args.problem.now c.requires.agrees))) c.in-Ok.spec c.in-Ok-read_word.term c.normal_answer.result c.in-Ok.ensures.ok (rw c.as_slice.ensures at c.in-Ok-read_word.ensures.reads) c.normal_answer.ensures

pub returns-in-Ok : goal.returns-in-Ok
returns-in-Ok c = no_term c.args.symbols.now c.args.command.now.order c.args.command.now.limit c.args.word.now c.args.problem.now c.in-Ok.spec c.in-Err-read_word.fault c.word_answer.result c.in-Ok.ensures.ok (rw c.as_slice.ensures at c.in-Err-read_word.ensures.refused) c.word_answer.ensures.answer c.word_answer.ensures.not_memory

pub returns : goal.returns
returns c = unordered c.args.symbols.now c.args.command.now.order c.args.command.now.limit c.args.word.now c.args.problem.now c.in-Err.fault c.choice_answer.result c.in-Err.ensures.err c.choice_answer.ensures.answer c.choice_answer.ensures.not_memory
