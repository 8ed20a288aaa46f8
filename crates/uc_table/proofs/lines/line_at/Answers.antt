use Rattle.std.proofs.Common.{refl}
use Rattle.uc_table.proofs.FirstLines.{none_here, next_here}
use Rattle.uc_table.proofs.lines.line_at.Goals as goal

pub returns-then-length-rest : goal.returns-then-length-rest
returns-then-length-rest c = none_here c.args.bytes.now c.split_at.result.1.now c.args.at.from c.line_len-length.result c.split_at.ensures.back c.line_len-length.ensures.longest c.if-length-rest.true

pub returns : goal.returns
returns c = next_here c.args.bytes.now c.split_at.result.1.now c.split_at-2.result.0.now c.args.at _ c.line_len-length.result c.split_at.ensures.back c.line_len-length.ensures.longest c.if-length-rest.false c.split_at-2.ensures.front refl refl c.requires.at
