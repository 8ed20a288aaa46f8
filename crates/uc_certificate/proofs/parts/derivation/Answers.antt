use Rattle.std.proofs.Common.{sym, subst}
use Rattle.std.specs.Prelude.{Err}
use Rattle.uc_certificate.specs.Reading as rules
use Rattle.uc_certificate.specs.Reading.{frame_of}
use Rattle.uc_certificate.specs.Reads.{GivesIn}
use Rattle.uc_certificate.proofs.PartsRead.{derivation_gives, derivation_fails}
use Rattle.uc_certificate.proofs.LineNames.{names_apart}
use Rattle.uc_certificate.proofs.parts.derivation.Goals as goal

pub returns-in-Ok-clause-reads : goal.returns-in-Ok-clause-reads
returns-in-Ok-clause-reads c = derivation_gives c.args.text.now c.args.at c.read_inside.new.symbols c.find-to.result c.find-to.ensures.found c.in-Ok.proof c.find-to.ensures.within.1 c.in-Ok.ensures.reading

pub returns-in-Ok-clause-distinct : goal.returns-in-Ok-clause-distinct
returns-in-Ok-clause-distinct c = names_apart c.read_inside.new.symbols c.args.text.now (frame_of c.args.at c.find-to.result) c.in-Ok.proof c.in-Ok.ensures.reading.1

pub returns-in-Err-clause-reads : goal.returns-in-Err-clause-reads
returns-in-Err-clause-reads c = subst (λ e. GivesIn (λ t. rules.derivation t c.args.text.now) c.read_inside.new.symbols c.args.text.now c.args.at (Err e)) (sym c.proof_fault.ensures) (derivation_fails c.args.text.now c.args.at c.read_inside.new.symbols c.find-to.result c.find-to.ensures.found c.in-Err.fault c.requires.small c.in-Err.ensures.reading)

pub returns-in-Ok-clause-interns : goal.returns-in-Ok-clause-interns
returns-in-Ok-clause-interns c = c.in-Ok.ensures.interns
