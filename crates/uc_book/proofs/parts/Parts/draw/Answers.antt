use Rattle.uc_machine.specs.Draws.{verdict_stands}
use Rattle.uc_book.proofs.parts.Parts.draw.Goals as goal

pub returns-in-Some-clause-drawn : goal.returns-in-Some-clause-drawn
returns-in-Some-clause-drawn c = verdict_stands c.in-Some.verdict c.in-Some.is
