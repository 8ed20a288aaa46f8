use Rattle.std.proofs.Common.{sym, ◌∙◌}
use Rattle.uc_certificate.proofs.JoinTerms.{same_seen, term_reads, term_foreign}
use Rattle.uc_certificate.proofs.terms.term.Goals as goal

pub returns-in-Some-clause-stops : goal.returns-in-Some-clause-stops
returns-in-Some-clause-stops c = term_foreign c.args.bytes.now c.args.tokens.now c.args.variables.now c.requires.seen c.args.from c.in-Ok.end c.term_at.new.variables c.term_at.new.symbols c.in-Ok.term c.in-Ok.ensures.reads c.in-Some.foreign (sym c.first_foreign.ensures ∙ c.in-Some.is)

pub returns-in-None-clause-reads : goal.returns-in-None-clause-reads
returns-in-None-clause-reads c = term_reads c.args.bytes.now c.args.tokens.now c.args.variables.now c.requires.seen c.args.from c.in-Ok.end c.term_at.new.variables c.term_at.new.symbols c.in-Ok.term c.in-Ok.ensures.reads (sym c.first_foreign.ensures ∙ c.in-None.is) c.args.symbols.now c.in-Ok.ensures.interns

pub returns-in-None-clause-same : goal.returns-in-None-clause-same
returns-in-None-clause-same c = same_seen c.args.bytes.now c.args.tokens.now c.args.variables.now c.requires.seen c.args.from c.in-Ok.end c.term_at.new.variables c.term_at.new.symbols c.in-Ok.term c.in-Ok.ensures.reads (sym c.first_foreign.ensures ∙ c.in-None.is)
