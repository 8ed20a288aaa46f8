use Rattle.uc_problem.proofs.Growth.{agrees_later}
use Rattle.uc_problem.proofs.Later.{Grows-refl}
use Rattle.uc_top.proofs.Answering.{large_within}
use Rattle.uc_top.proofs.ProvedAnswers.{large, large_promises, large_adds, marks_added, for_any}
use Rattle.uc_top.proofs.proving.encoded_answer.Goals as goal

pub ordered_answer-requires-clause-agrees : goal.ordered_answer-requires-clause-agrees
ordered_answer-requires-clause-agrees g c κs within = agrees_later c.args.symbols.now c.encode.new.symbols c.encode.ensures.grows c.args.problem.now c.requires.agrees

pub ordered_answer-requires-clause-encodes : goal.ordered_answer-requires-clause-encodes
ordered_answer-requires-clause-encodes g c κs within = (rw c.in-Ok.is at c.encode.ensures.encoded) c.encode.new.symbols (Grows-refl c.encode.new.symbols)

pub bounds-as_slice-number : goal.bounds-as_slice-number
bounds-as_slice-number g c = rw c.as_slice.ensures (large_within c.encode.new.symbols c.args.problem.now c.in-Err-GoalTooLarge.number (rw (c.in-Err-GoalTooLarge.is, c.in-Err-GoalTooLarge.field-0-is) at c.encode.ensures.encoded))

pub returns-in_ok-large_answer-in-Err-GoalTooLarge-clause-answers : goal.returns-in_ok-large_answer-in-Err-GoalTooLarge-clause-answers
returns-in_ok-large_answer-in-Err-GoalTooLarge-clause-answers g c = large c.encode.new.symbols c.args.command.now c.args.name.now c.args.problem.now c.args.symbols.now c.in-Err-GoalTooLarge.number c.index-as_slice-number.result c.in_ok-large_answer-in-Err-GoalTooLarge.field-0 c.with_status.result (rw (c.in-Err-GoalTooLarge.is, c.in-Err-GoalTooLarge.field-0-is) at c.encode.ensures.encoded) (rw c.as_slice.ensures at c.index-as_slice-number.is) c.in_ok-large_answer-in-Err-GoalTooLarge.ensures c.with_status.ensures

pub returns-in_ok-large_answer-in-Err-GoalTooLarge-clause-promise : goal.returns-in_ok-large_answer-in-Err-GoalTooLarge-clause-promise
returns-in_ok-large_answer-in-Err-GoalTooLarge-clause-promise g c = large_promises c.encode.new.symbols c.args.command.now c.args.name.now c.args.problem.now c.in_ok-large_answer-in-Err-GoalTooLarge.field-0 _ c.with_status.result c.in_ok-large_answer-in-Err-GoalTooLarge.ensures.0 c.with_status.ensures

pub returns-in-Ok-clause-answers : goal.returns-in-Ok-clause-answers
returns-in-Ok-clause-answers g c = c.ordered_answer.ensures.answers c.args.symbols.now (rw c.in-Ok.is at c.encode.ensures.adds)

pub returns-in-Ok-clause-adds : goal.returns-in-Ok-clause-adds
returns-in-Ok-clause-adds g c = for_any c.ordered_answer.result (λ answer few distinct fresh m. marks_added c.encode.new.symbols c.args.command.now c.args.name.now c.args.problem.now c.args.symbols.now c.in-Ok.encoded (rw c.in-Ok.is at c.encode.ensures.adds) ((rw c.in-Ok.is at c.encode.ensures.encoded) c.encode.new.symbols (Grows-refl c.encode.new.symbols)) distinct fresh m)

pub returns-in_ok-large_answer-in-Err-GoalTooLarge-clause-adds : goal.returns-in_ok-large_answer-in-Err-GoalTooLarge-clause-adds
returns-in_ok-large_answer-in-Err-GoalTooLarge-clause-adds g c = large_adds c.encode.new.symbols c.args.command.now c.args.name.now c.args.problem.now c.args.symbols.now c.in_ok-large_answer-in-Err-GoalTooLarge.field-0 _ c.with_status.result c.in_ok-large_answer-in-Err-GoalTooLarge.ensures.0 c.with_status.ensures
