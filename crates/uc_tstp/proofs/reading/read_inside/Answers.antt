use Rattle.std.proofs.Common.{sym, subst}
use Rattle.std.specs.Prelude.{Err}
use Rattle.uc_tstp.specs.Reading.{IsReadingInside}
use Rattle.uc_tstp.proofs.Readings.{token_fault_reading}
use Rattle.uc_tstp.proofs.reading.read_inside.Goals as goal

pub returns-in-Err-clause-reading : goal.returns-in-Err-clause-reading
returns-in-Err-clause-reading c = subst (λ e. IsReadingInside c.args.which c.args.symbols.now c.args.bytes.now c.args.frame (Err e)) (sym c.token_fault.ensures) (token_fault_reading c.args.which c.args.symbols.now c.args.bytes.now c.args.frame c.requires.frame c.requires.begins c.in-Err.fault c.in-Err.ensures.refused)
