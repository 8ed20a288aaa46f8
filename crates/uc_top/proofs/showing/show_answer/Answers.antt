use Rattle.std.proofs.Common.{[]}
use Rattle.uc_top.proofs.HandingOn.{loaded_for, refused_for}
use Rattle.uc_top.proofs.Faulted.{none_failed}
use Rattle.uc_top.proofs.showing.show_answer.Goals as goal

pub returns-in-Refused-clause-answers : goal.returns-in-Refused-clause-answers
returns-in-Refused-clause-answers g c = refused_for _ _ _ _ c.args.name.now _ (rw c.in-Refused.is at c.in_ok-answer.ensures.handed)

pub returns-in-Held-clause-answers : goal.returns-in-Held-clause-answers
returns-in-Held-clause-answers g c = loaded_for _ _ _ _ c.args.name.now _ c.in-Held.symbols c.in-Held.problem c.clauses_answer.result (rw c.in-Held.is at c.in_ok-answer.ensures.handed) (rw c.as_slice.ensures at c.clauses_answer.ensures)

pub returns-in-Held-clause-faulted : goal.returns-in-Held-clause-faulted
returns-in-Held-clause-faulted g c = none_failed (g.L.Library.faults c.args.library.now) (g.L.Library.faults c.load_problem.new.library) (g.L.Library.failed_at c.args.library.now) (g.L.Library.failed_at c.load_problem.new.library) [] c.clauses_answer.result (rw c.in-Held.is at c.in_ok-answer.ensures.faulted)
