use Rattle.std.proofs.Common.{refl}
use Rattle.uc_top.specs.Faulting.{no_fetch_failed}
use Rattle.uc_top.proofs.Answering.{large_within}
use Rattle.uc_top.proofs.CertifiedAnswers.{large_tested, encoded_tested}
use Rattle.uc_top.proofs.certificates.test_certificate.Goals as goal

pub bounds-clauses-number : goal.bounds-clauses-number
bounds-clauses-number g c = rw (c.as_slice-clauses.ensures) (large_within c.encode.new.symbols c.args.problem.now c.in-Err-GoalTooLarge.number (rw (c.in-Err-GoalTooLarge.is, c.in-Err-GoalTooLarge.field-0-is) at c.encode.ensures.encoded))

pub returns-in-Ok-clause-tested : goal.returns-in-Ok-clause-tested
returns-in-Ok-clause-tested g c = encoded_tested c.args.symbols.now c.encode.new.symbols _ _ _ c.args.problem.now c.args.file.now c.in-Ok.encoded _ c.test_file.result c.len.ensures.distinct (rw c.in-Ok.is at c.encode.ensures.adds) (rw c.in-Ok.is at c.encode.ensures.encoded) (rw c.as_slice-clauses.ensures at c.test_file.ensures.tested)

pub returns-in_ok-answer-in-Err-GoalTooLarge-clause-tested : goal.returns-in_ok-answer-in-Err-GoalTooLarge-clause-tested
returns-in_ok-answer-in-Err-GoalTooLarge-clause-tested g c = large_tested c.args.symbols.now c.encode.new.symbols _ _ _ c.args.problem.now c.args.file.now c.in-Err-GoalTooLarge.number c.index-clauses-number.result c.args.symbols.now c.in_ok-answer-in-Err-GoalTooLarge.answer (rw (c.in-Err-GoalTooLarge.is, c.in-Err-GoalTooLarge.field-0-is) at c.encode.ensures.encoded) (rw c.as_slice-clauses.ensures at c.index-clauses-number.is) c.in_ok-answer-in-Err-GoalTooLarge.ensures

pub returns-in_ok-answer-in-Err-GoalTooLarge-clause-faulted : goal.returns-in_ok-answer-in-Err-GoalTooLarge-clause-faulted
returns-in_ok-answer-in-Err-GoalTooLarge-clause-faulted g c = no_fetch_failed (refl, refl)
