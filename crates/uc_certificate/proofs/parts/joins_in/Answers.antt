use Rattle.std.proofs.Common.{sym, subst, arith}
use Rattle.std.specs.Prelude.{Err}
use Rattle.uc_clause.proofs.Tables.{grows_not}
use Rattle.uc_certificate.specs.Reading as rules
use Rattle.uc_certificate.specs.Reads.{GivesIn}
use Rattle.uc_tstp.specs.Reading.{inside}
use Rattle.uc_certificate.proofs.JoinsOf.{joins_of}
use Rattle.uc_certificate.proofs.PartsRead.{joins_give, joins_fail}
use Rattle.uc_certificate.proofs.parts.joins_in.Goals as goal

pub returns-in-Ok-clause-reads : goal.returns-in-Ok-clause-reads
returns-in-Ok-clause-reads c first = joins_give c.args.text.now c.args.frame.from c.joins.new.symbols c.args.frame.to first c.args.tokens.now c.requires.tokens c.args.symbols.now c.in-Ok.list _ c.requires.frame.1 c.in-Ok.ensures.reads

pub returns-in-Ok-clause-terms : goal.returns-in-Ok-clause-terms
returns-in-Ok-clause-terms c = joins_of (inside c.args.text.now c.args.frame) c.args.tokens.now c.joins.new.symbols (c.in-Ok.ensures.reads.means c.joins.new.symbols (grows_not c.joins.new.symbols))

pub returns-in-Err-clause-reads : goal.returns-in-Err-clause-reads
returns-in-Err-clause-reads c first = subst (λ e. GivesIn (λ t. rules.join_lines t c.args.text.now) c.joins.new.symbols c.args.text.now c.args.frame.from (Err e)) (sym c.stop_fault.ensures) (joins_fail c.args.text.now c.args.frame.from c.joins.new.symbols c.args.frame.to first c.args.tokens.now c.requires.tokens c.in-Err.stop c.in-Err.ensures.stops)

pub returns-in-Ok-clause-interns : goal.returns-in-Ok-clause-interns
returns-in-Ok-clause-interns c = record { tokens = c.args.tokens.now; are_tokens = c.requires.tokens; parse = c.in-Ok.ensures.reads.parse; end = _; reads = c.in-Ok.ensures.reads.reads; new_is = c.in-Ok.ensures.reads.interns }
