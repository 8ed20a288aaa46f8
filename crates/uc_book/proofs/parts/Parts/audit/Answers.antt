use Rattle.uc_machine.specs.Runs.{is_closed}
use Rattle.uc_book.proofs.parts.Parts.audit.Goals as goal

pub returns-in-Some-clause-audited : goal.returns-in-Some-clause-audited
returns-in-Some-clause-audited g c = is_closed c.in-Some.verdict c.in-Some.is
