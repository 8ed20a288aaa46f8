use Rattle.uc_system.proofs.FactReading.{no_frame, line_read, line_unread, short_unread}
use Rattle.uc_system.proofs.facts.fact_in.Goals as goal

pub returns-in_default-clause-reads : goal.returns-in_default-clause-reads
returns-in_default-clause-reads c = no_frame c.args.symbols.now c.args.known.now.keys c.args.number c.args.line.now (rw (c.as_bytes.ensures, c.in_ok-front.ensures) at c.in_default.ensures)

pub returns-in-Ok-clause-reads : goal.returns-in-Ok-clause-reads
returns-in-Ok-clause-reads c = line_read c.fact_of.new.symbols c.args.known.now.keys c.args.number c.args.line.now c.in_ok-front.front c.in-Some.text.now c.in_ok-front.ensures (rw c.as_bytes.ensures at c.in-Some.ensures) c.in-Ok.fact c.in-Ok.ensures.reads

pub further-requires-clause-short : goal.further-requires-clause-short
further-requires-clause-short c = short_unread c.fact_of.new.symbols c.args.known.now.keys c.args.number c.args.line.now c.in_ok-front.front c.in-Some.text.now c.in_ok-front.ensures (rw c.as_bytes.ensures at c.in-Some.ensures) c.requires.small c.in-Err.unread c.in-Err.ensures.reads

pub returns-clause-reads : goal.returns-clause-reads
returns-clause-reads c = rw (c.further.ensures, c.len.ensures) (line_unread c.fact_of.new.symbols c.args.known.now.keys c.args.number c.args.line.now c.in_ok-front.front c.in-Some.text.now c.in_ok-front.ensures (rw c.as_bytes.ensures at c.in-Some.ensures) c.in-Err.unread c.in-Err.ensures.reads)

pub returns-in-Ok-clause-keeps : goal.returns-in-Ok-clause-keeps
returns-in-Ok-clause-keeps c = c.in-Ok.ensures.keeps
