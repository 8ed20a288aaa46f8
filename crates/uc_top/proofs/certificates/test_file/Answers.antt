use Rattle.uc_top.specs.FileAnswers.{is_absent, isnt_fetched}
use Rattle.uc_top.proofs.CertifiedAnswers.{found_tested, refusal_of}
use Rattle.uc_top.proofs.TestedFaults.{none_tested, fetch_tested}
use Rattle.uc_top.specs.Faulting.{no_fetch_failed}
use Rattle.uc_top.proofs.certificates.test_file.Goals as goal

pub returns-in-Found-clause-tested : goal.returns-in-Found-clause-tested
returns-in-Found-clause-tested g c = found_tested c.args.symbols.now c.args.clauses.now c.args.encoded.now _ _ _ c.args.file.now c.in-Found.text _ c.test_text.result (rw c.in-Found.is at c.in_ok-text.ensures.fetched) (rw c.as_bytes.ensures at c.test_text.ensures)

pub returns-in_ok-answer-in-Absent-clause-tested : goal.returns-in_ok-answer-in-Absent-clause-tested
returns-in_ok-answer-in-Absent-clause-tested g c = refusal_of c.args.symbols.now c.args.clauses.now c.args.encoded.now _ _ _ c.args.file.now c.args.symbols.now 3 _ c.in_ok-answer-in-Absent.answer c.in_ok-answer-in-Absent.ensures (is_absent (rw c.in-Absent.is at c.in_ok-text.ensures.fetched))

pub returns-in_ok-answer-in-Failed-clause-tested : goal.returns-in_ok-answer-in-Failed-clause-tested
returns-in_ok-answer-in-Failed-clause-tested g c = refusal_of c.args.symbols.now c.args.clauses.now c.args.encoded.now _ _ _ c.args.file.now c.args.symbols.now 5 _ c.in_ok-answer-in-Failed.answer c.in_ok-answer-in-Failed.ensures (isnt_fetched (rw c.in-Failed.is at c.in_ok-text.ensures.fetched))

pub returns-in-Found-clause-faulted : goal.returns-in-Found-clause-faulted
returns-in-Found-clause-faulted g c = none_tested (g.L.Library.faults c.args.library.now) (g.L.Library.faults c.fetch_text.new.library) (g.L.Library.failed_at c.args.library.now) (g.L.Library.failed_at c.fetch_text.new.library) c.test_text.result (rw c.in-Found.is at c.in_ok-text.ensures.counted)

pub returns-in_ok-answer-in-Absent-clause-faulted : goal.returns-in_ok-answer-in-Absent-clause-faulted
returns-in_ok-answer-in-Absent-clause-faulted g c = no_fetch_failed (rw c.in-Absent.is at c.in_ok-text.ensures.counted)

pub returns-in_ok-answer-in-Failed-clause-faulted : goal.returns-in_ok-answer-in-Failed-clause-faulted
returns-in_ok-answer-in-Failed-clause-faulted g c = fetch_tested (g.L.Library.faults c.args.library.now) (g.L.Library.faults c.fetch_text.new.library) (g.L.Library.failed_at c.args.library.now) (g.L.Library.failed_at c.fetch_text.new.library) c.args.file.now c.in_ok-answer-in-Failed.answer c.in_ok-answer-in-Failed.ensures (rw c.in-Failed.is at c.in_ok-text.ensures.counted)
