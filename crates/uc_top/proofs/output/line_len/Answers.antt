use Rattle.uc_top.proofs.FirstLine.{line_with_feed, line_without}
use Rattle.uc_top.proofs.output.line_len.Goals as goal

pub returns-then-body-text-clause-line : goal.returns-then-body-text-clause-line
returns-then-body-text-clause-line c = line_with_feed c.args.text.now c.body_len-body.result c.body_len-body.ensures.longest c.if-body-text.true

pub returns-else-body-text-clause-line : goal.returns-else-body-text-clause-line
returns-else-body-text-clause-line c = line_without c.args.text.now c.body_len-body.result c.body_len-body.ensures.longest c.if-body-text.false c.requires
