use Rattle.uc_top.proofs.Answering.{unread}
use Rattle.uc_top.proofs.checking.text_answer.Goals as goal

pub returns-in-Ok-clause-answers : goal.returns-in-Ok-clause-answers
returns-in-Ok-clause-answers c = c.checked_answer.ensures.answers c.args.name.now c.args.text.now c.args.symbols.now c.read_proof.new.symbols (rw c.in-Ok.is at c.read_proof.ensures.interns) (rw c.in-Ok.is at c.read_proof.ensures.reading)

pub returns-in-Err-clause-answers : goal.returns-in-Err-clause-answers
returns-in-Err-clause-answers c = unread c.args.symbols.now c.read_proof.new.symbols c.args.clauses.now _ c.args.name.now c.args.text.now c.in-Err.fault c.unread_answer.result (rw c.in-Err.is at c.read_proof.ensures.reading) c.unread_answer.ensures.answer c.unread_answer.ensures.not_memory
