use Rattle.uc_tstp.proofs.Meant.{as_many_lines}
use Rattle.uc_tstp.proofs.Readings.{proof_reading, name_fault_reading}
use Rattle.std.proofs.Common.{sym, subst}
use Rattle.std.specs.Prelude.{Err}
use Rattle.uc_tstp.specs.Reading.{IsReadingInside}
use Rattle.uc_tstp.proofs.reading.proof_of.Goals as goal

pub returns-in-Ok-clause-reading : goal.returns-in-Ok-clause-reading
returns-in-Ok-clause-reading c = λ which old table lines. proof_reading which table c.args.bytes.now c.args.frame c.requires.frame c.args.tokens.now c.requires.tokens c.args.names.now c.args.drafts old lines c.in-Ok.lines c.in-Ok.ensures.resolve

pub returns-in-Ok-clause-few : goal.returns-in-Ok-clause-few
returns-in-Ok-clause-few c = as_many_lines c.in-Ok.ensures.resolve

pub returns-in-Err-clause-reading : goal.returns-in-Err-clause-reading
returns-in-Err-clause-reading c = λ which old table lines. subst (λ e. IsReadingInside which table c.args.bytes.now c.args.frame (Err e)) (sym c.name_fault.ensures) (name_fault_reading which table c.args.bytes.now c.args.frame c.requires.frame c.args.tokens.now c.requires.tokens c.args.names.now c.args.drafts old lines c.in-Err.unresolved c.in-Err.ensures.lacks)
