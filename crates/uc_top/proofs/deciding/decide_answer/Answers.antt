use Rattle.std.proofs.Common.{[], arith}
use Rattle.uc_top.proofs.HandingOn.{loaded_for, refused_for, refused_high}
use Rattle.uc_top.proofs.Faulted.{none_failed}
use Rattle.uc_top.proofs.DecidedAnswers.{loaded_decided}
use Rattle.uc_top.proofs.deciding.decide_answer.Goals as goal

pub returns-in-Refused-clause-answers : goal.returns-in-Refused-clause-answers
returns-in-Refused-clause-answers g c = refused_for _ _ _ _ c.args.name.now _ (rw (c.in-Refused.is, c.as_ref.ensures.value) at c.in_ok-answer.ensures.handed)

pub returns-in-Held-clause-answers : goal.returns-in-Held-clause-answers
returns-in-Held-clause-answers g c = loaded_for _ _ _ _ c.args.name.now _ c.in-Held.symbols c.in-Held.problem c.asked_answer.result (rw (c.in-Held.is, c.as_ref.ensures.value) at c.in_ok-answer.ensures.handed) (rw c.as_bytes.ensures at c.asked_answer.ensures.answers)

pub returns-in-Held-clause-faulted : goal.returns-in-Held-clause-faulted
returns-in-Held-clause-faulted g c = none_failed (g.L.Library.faults c.args.library.now) (g.L.Library.faults c.load_problem.new.library) (g.L.Library.failed_at c.args.library.now) (g.L.Library.failed_at c.load_problem.new.library) [] c.asked_answer.result (rw c.in-Held.is at c.in_ok-answer.ensures.faulted)

pub returns-in-Refused-clause-promise : goal.returns-in-Refused-clause-promise
returns-in-Refused-clause-promise g c = λ few. absurd (omega (arith, few, refused_high _ _ _ _ c.args.name.now (rw c.in-Refused.is at c.in_ok-answer.ensures.handed)))

pub returns-in-Held-clause-promise : goal.returns-in-Held-clause-promise
returns-in-Held-clause-promise g c = loaded_decided c.in-Held.symbols c.args.command.now c.args.name.now c.args.words.now _ c.in-Held.problem c.asked_answer.result (rw (c.in-Held.is, c.as_ref.ensures.value) at c.in_ok-answer.ensures.handed) (rw c.as_bytes.ensures at c.asked_answer.ensures.promise)
