use Rattle.std.proofs.lemmas.Result.{err_from_is_err_and}
use Rattle.uc_top.proofs.Faulted.{some_file}
use Rattle.uc_top.proofs.program.whole_answer.Goals as goal

pub returns-in_err-answer-clause-counted : goal.returns-in_err-answer-clause-counted
returns-in_err-answer-clause-counted g c =
    let p = err_from_is_err_and c.from_residual.result c.from_residual.ensures.1 in
    rw p.1 c.in_err-answer.ensures.counted

pub returns-in_err-text-clause-counted : goal.returns-in_err-text-clause-counted
returns-in_err-text-clause-counted g c =
    let p = err_from_is_err_and c.from_residual-in_err-text.result c.from_residual-in_err-text.ensures.1 in
    rw p.1 (some_file (g.L.Library.faults c.args.library.now) (g.L.Library.faults c.answer_of.new.library) (g.L.Library.failed_at c.args.library.now) (g.L.Library.failed_at c.answer_of.new.library) c.in_ok-answer.ensures.counted)

pub returns-clause-answers : goal.returns-clause-answers
returns-clause-answers g c = rw c.in_ok-text.ensures c.in_ok-answer.ensures.answers

pub returns-clause-promise : goal.returns-clause-promise
returns-clause-promise g c = rw c.in_ok-text.ensures c.in_ok-answer.ensures.promise

pub returns-clause-decided : goal.returns-clause-decided
returns-clause-decided g c = rw c.in_ok-text.ensures c.in_ok-answer.ensures.decided

pub returns-clause-faulted : goal.returns-clause-faulted
returns-clause-faulted g c command reads = rw c.in_ok-text.ensures (c.in_ok-answer.ensures.faulted command reads)
