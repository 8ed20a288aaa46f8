use Rattle.uc_certificate.proofs.HeadingLines.{line_here, no_line_here}
use Rattle.uc_certificate.proofs.headings.whole_line.Goals as goal

pub returns-then-at-line : goal.returns-then-at-line
returns-then-at-line c = line_here c.args.text.now c.args.at c.line_from-line.result.now c.line_from-line.ensures.line c.requires c.if-at-line.true

pub returns-else-at-line : goal.returns-else-at-line
returns-else-at-line c = no_line_here c.args.text.now c.args.at c.line_from-line.result.now c.line_from-line.ensures.line c.requires c.if-at-line.false
