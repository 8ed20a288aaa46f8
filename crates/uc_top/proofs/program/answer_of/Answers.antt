use Rattle.std.proofs.Common.{arith}
use Rattle.uc_top.specs.Answers.{has_no_reading}
use Rattle.uc_top.specs.Runs.{MayAnswer, is_answer}
use Rattle.uc_top.proofs.Answering.{one_line, certified_by}
use Rattle.uc_top.proofs.ProvedAnswers.{no_promise}
use Rattle.uc_top.proofs.ProveCompleting.{promised_answers}
use Rattle.uc_top.proofs.DecidePromises.{decided_answers}
use Rattle.std.proofs.Common.{refl}
use Rattle.uc_words.proofs.Only.{only}
use Rattle.uc_top.specs.Faulting.{fault_opening}
use Rattle.uc_top.proofs.Faulted.{none_failed, status_of, no_status}
use Rattle.uc_top.proofs.program.answer_of.Goals as goal

pub returns-in-Err-Usage-clause-answers : goal.returns-in-Err-Usage-clause-answers
returns-in-Err-Usage-clause-answers g c = one_line c.usage_answer.result (MayAnswer _ _ _ _) _ _ c.usage_answer.ensures (is_answer (has_no_reading (rw (c.in-Err-Usage.is, c.in-Err-Usage.field-0-is) at c.read_words.ensures.reads)))

pub returns-in-Ok-clause-certified : goal.returns-in-Ok-clause-certified
returns-in-Ok-clause-certified g c = certified_by _ c.in-Ok.command _ c.command_answer.result (rw c.in-Ok.is at c.read_words.ensures.reads) c.command_answer.ensures.certified

pub returns-in-Ok-clause-promise : goal.returns-in-Ok-clause-promise
returns-in-Ok-clause-promise g c = promised_answers _ c.in-Ok.command _ c.command_answer.result (rw c.in-Ok.is at c.read_words.ensures.reads) c.command_answer.ensures.promise

pub returns-in-Err-Usage-clause-promise : goal.returns-in-Err-Usage-clause-promise
returns-in-Err-Usage-clause-promise g c = no_promise _ _ _ c.usage_answer.result (omega arith) c.usage_answer.ensures

pub returns-in-Ok-clause-decided : goal.returns-in-Ok-clause-decided
returns-in-Ok-clause-decided g c = decided_answers _ c.in-Ok.command _ c.command_answer.result (rw c.in-Ok.is at c.read_words.ensures.reads) c.command_answer.ensures.decided

pub returns-in-Err-Usage-clause-decided : goal.returns-in-Err-Usage-clause-decided
returns-in-Err-Usage-clause-decided g c = no_promise _ _ _ c.usage_answer.result (omega arith) c.usage_answer.ensures

pub returns-in-Ok-clause-faulted : goal.returns-in-Ok-clause-faulted
returns-in-Ok-clause-faulted g c = λ command reads. rw (← only _ c.in-Ok.command command (rw c.in-Ok.is at c.read_words.ensures.reads) reads) c.command_answer.ensures.faulted

pub returns-in-Ok-clause-counted : goal.returns-in-Ok-clause-counted
returns-in-Ok-clause-counted g c = status_of (g.L.Library.faults c.args.library.now) (g.L.Library.faults c.command_answer.new.library) (g.L.Library.failed_at c.args.library.now) (g.L.Library.failed_at c.command_answer.new.library) (fault_opening c.in-Ok.command) c.command_answer.result c.command_answer.ensures.faulted

pub returns-in-Err-Usage-clause-faulted : goal.returns-in-Err-Usage-clause-faulted
returns-in-Err-Usage-clause-faulted g c command reads = none_failed (g.L.Library.faults c.args.library.now) (g.L.Library.faults c.args.library.now) (g.L.Library.failed_at c.args.library.now) (g.L.Library.failed_at c.args.library.now) (fault_opening command) c.usage_answer.result (refl, refl)

pub returns-in-Err-Usage-clause-counted : goal.returns-in-Err-Usage-clause-counted
returns-in-Err-Usage-clause-counted g c = no_status (g.L.Library.faults c.args.library.now) (g.L.Library.faults c.args.library.now) (g.L.Library.failed_at c.args.library.now) (g.L.Library.failed_at c.args.library.now) c.usage_answer.result (refl, refl)
