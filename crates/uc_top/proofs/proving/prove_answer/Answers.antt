use Rattle.uc_top.specs.Faulting.{input_error}
use Rattle.uc_top.proofs.ProvedAnswers.{loaded, loaded_kept, unloaded, no_promise, high_status}
use Rattle.uc_top.proofs.Faulted.{none_failed, prove_failed}
use Rattle.uc_top.proofs.proving.prove_answer.Goals as goal

pub returns-in-Ok-clause-answers : goal.returns-in-Ok-clause-answers
returns-in-Ok-clause-answers g c = loaded c.in-Ok.symbols c.encoded_answer-answer.new.symbols c.args.command.now c.args.name.now _ _ _ c.in-Ok.problem c.encoded_answer-answer.result (rw (c.in-Ok.is, c.as_ref.ensures.value) at c.load_held.ensures.held) c.encoded_answer-answer.ensures.grows c.len.ensures.distinct (rw c.as_bytes-name.ensures at c.encoded_answer-answer.ensures.answers)

pub returns-in-Ok-clause-promise : goal.returns-in-Ok-clause-promise
returns-in-Ok-clause-promise g c = loaded_kept c.in-Ok.symbols c.encoded_answer-answer.new.symbols c.args.command.now c.args.name.now _ c.in-Ok.problem c.encoded_answer-answer.result (rw (c.in-Ok.is, c.as_ref.ensures.value) at c.load_held.ensures.held) c.encoded_answer-answer.ensures.grows c.len.ensures.distinct c.requires.name c.requires.some c.requires.root (rw c.as_bytes-name.ensures at c.encoded_answer-answer.ensures.promise) c.encoded_answer-answer.ensures.adds

pub returns-in-Err-clause-answers : goal.returns-in-Err-clause-answers
returns-in-Err-clause-answers g c = unloaded c.args.command.now c.args.name.now _ _ _ c.in-Err.fault c.unloaded_answer.result (rw (c.in-Err.is, c.as_ref.ensures.value) at c.load_held.ensures.unheld) (rw c.as_bytes.ensures at c.unloaded_answer.ensures.answer) c.unloaded_answer.ensures.not_memory

pub returns-in-Err-clause-promise : goal.returns-in-Err-clause-promise
returns-in-Err-clause-promise g c = no_promise _ _ _ c.unloaded_answer.result (high_status c.in-Err.fault) c.unloaded_answer.ensures.answer

pub returns-in-Ok-clause-faulted : goal.returns-in-Ok-clause-faulted
returns-in-Ok-clause-faulted g c = none_failed (g.L.Library.faults c.args.library.now) (g.L.Library.faults c.load_held.new.library) (g.L.Library.failed_at c.args.library.now) (g.L.Library.failed_at c.load_held.new.library) (input_error c.args.name.now) c.encoded_answer-answer.result (rw c.in-Ok.is at c.load_held.ensures.counted)

pub returns-in-Err-clause-faulted : goal.returns-in-Err-clause-faulted
returns-in-Err-clause-faulted g c = prove_failed (g.L.Library.faults c.args.library.now) (g.L.Library.faults c.load_held.new.library) (g.L.Library.failed_at c.args.library.now) (g.L.Library.failed_at c.load_held.new.library) c.args.name.now c.in-Err.fault c.unloaded_answer.result (rw c.as_bytes.ensures at c.unloaded_answer.ensures.answer) c.unloaded_answer.ensures.not_memory (rw c.in-Err.is at c.load_held.ensures.counted)
