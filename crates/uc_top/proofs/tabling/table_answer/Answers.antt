use Rattle.std.proofs.Common.{[]}
use Rattle.uc_top.proofs.HandingOn.{refused_for}
use Rattle.uc_top.proofs.Faulted.{later_failed}
use Rattle.uc_top.proofs.TabledAnswers.{loaded_file}
use Rattle.uc_top.proofs.tabling.table_answer.Goals as goal

pub returns-in-Refused-clause-answers : goal.returns-in-Refused-clause-answers
returns-in-Refused-clause-answers g c = refused_for _ _ _ _ c.args.name.now _ (rw c.in-Refused.is at c.in_ok-answer.ensures.handed)

pub returns-in-Held-clause-answers : goal.returns-in-Held-clause-answers
returns-in-Held-clause-answers g c = loaded_file c.in-Held.symbols _ _ _ _ _ _ c.args.name.now c.args.file.now c.in-Held.problem c.file_answer.result (rw c.in-Held.is at c.in_ok-answer.ensures.handed) c.load_problem.ensures.same c.load_problem.ensures.later (rw c.as_bytes.ensures at c.file_answer.ensures.answers)

pub returns-in-Held-clause-faulted : goal.returns-in-Held-clause-faulted
returns-in-Held-clause-faulted g c = later_failed _ _ [] c.file_answer.result (rw c.in-Held.is at c.in_ok-answer.ensures.faulted) c.file_answer.ensures.faulted
