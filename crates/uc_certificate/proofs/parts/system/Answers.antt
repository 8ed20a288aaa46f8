use Rattle.std.proofs.Common.{sym, subst, drop}
use Rattle.std.specs.Prelude.{Err}
use Rattle.uc_clause.proofs.Tables.{grows_not}
use Rattle.uc_certificate.specs.Reading as rules
use Rattle.uc_certificate.specs.Reads.{GivesIn}
use Rattle.uc_certificate.proofs.PartsRead.{starts, system_gives, system_fails_from}
use Rattle.uc_certificate.proofs.SystemHere.{system_here}
use Rattle.uc_certificate.proofs.parts.system.Goals as goal

pub system_at-requires-clause-at : goal.system_at-requires-clause-at
system_at-requires-clause-at c = rw c.place_of.ensures (starts c.args.text.now c.args.at c.requires.at)

pub returns-in-Ok-clause-reads : goal.returns-in-Ok-clause-reads
returns-in-Ok-clause-reads c = system_gives c.args.text.now c.args.at c.system_at.new.symbols c.in-Ok.said c.in-Ok.end (rw c.place_of.ensures at c.in-Ok.ensures.reads)

pub returns-in-Ok-clause-system : goal.returns-in-Ok-clause-system
returns-in-Ok-clause-system c = system_here c.system_at.new.symbols (drop c.args.at c.args.text.now) c.in-Ok.said c.in-Ok.end.number (drop c.in-Ok.end.from c.args.text.now) (c.in-Ok.ensures.reads.0 c.system_at.new.symbols (grows_not c.system_at.new.symbols))

pub returns-in-Err-clause-reads : goal.returns-in-Err-clause-reads
returns-in-Err-clause-reads c = subst (λ e. GivesIn (λ t. rules.system t c.args.text.now) c.system_at.new.symbols c.args.text.now c.args.at (Err e)) (sym c.system_fault.ensures) (system_fails_from c.args.text.now c.args.at c.system_at.new.symbols c.place_of.result c.place_of.ensures c.in-Err.fault c.in-Err.ensures.reads)

pub returns-in-Ok-clause-interns : goal.returns-in-Ok-clause-interns
returns-in-Ok-clause-interns c = c.in-Ok.ensures.interns
