use Rattle.std.proofs.Common.{◌∙◌}
use Rattle.uc_problem.proofs.Fetches.{no_text, found_text}
use Rattle.uc_problem.proofs.fetch.fetch_text.Goals as goal

pub returns-in_default-clause-answer : goal.returns-in_default-clause-answer
returns-in_default-clause-answer g c = no_text _ _ _ c.args.name.now (rw c.as_bytes.ensures at c.in_default.ensures.cases.0)

pub returns-in-Found-clause-answer : goal.returns-in-Found-clause-answer
returns-in-Found-clause-answer g c = found_text _ _ _ c.args.name.now c.in-Ok.text.now c.in-Found.bytes (c.in-Ok.ensures.cases.0 ∙ c.as_bytes.ensures) (rw c.as_bytes.ensures at c.in-Ok.ensures.cases.1) (rw c.in-Found.is at c.in_ok-bytes.ensures.answer)
