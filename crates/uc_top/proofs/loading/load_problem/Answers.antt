use Rattle.std.proofs.Common.{Ok}
use Rattle.std.proofs.lemmas.Result.{err_from_is_err_and}
use Rattle.std.specs.declared.alloc.AllocError.{AllocError}
use Rattle.uc_top.proofs.Answering.{refused_answers}
use Rattle.uc_top.proofs.Faulted.{load_failed, some_counted}
use Rattle.uc_top.proofs.loading.load_problem.Goals as goal

pub returns-in_ok-load_answer-in-Err-clause-handed : goal.returns-in_ok-load_answer-in-Err-clause-handed
returns-in_ok-load_answer-in-Err-clause-handed g c = refused_answers _ _ _ _ c.args.name.now c.in-Err.fault (Ok c.in_ok-load_answer-in-Err.field-0) (rw c.in-Err.is at c.load_held.ensures.unheld) c.in_ok-load_answer-in-Err.ensures.answer c.in_ok-load_answer-in-Err.ensures.not_memory

pub returns-in_ok-load_answer-in-Err-clause-faulted : goal.returns-in_ok-load_answer-in-Err-clause-faulted
returns-in_ok-load_answer-in-Err-clause-faulted g c = load_failed (g.L.Library.faults c.args.library.now) (g.L.Library.faults c.load_held.new.library) (g.L.Library.failed_at c.args.library.now) (g.L.Library.failed_at c.load_held.new.library) {E = AllocError} c.in-Err.fault (Ok c.in_ok-load_answer-in-Err.field-0) c.in_ok-load_answer-in-Err.ensures.answer c.in_ok-load_answer-in-Err.ensures.not_memory (rw c.in-Err.is at c.load_held.ensures.counted)

pub returns-in_err-load_answer-in-Err-clause-faulted : goal.returns-in_err-load_answer-in-Err-clause-faulted
returns-in_err-load_answer-in-Err-clause-faulted g c =
    let p = err_from_is_err_and c.from_residual.result c.from_residual.ensures.1 in
    rw p.1 (some_counted (g.L.Library.faults c.args.library.now) (g.L.Library.faults c.load_held.new.library) (g.L.Library.failed_at c.args.library.now) (g.L.Library.failed_at c.load_held.new.library) c.in-Err.fault (rw c.in-Err.is at c.load_held.ensures.counted))
