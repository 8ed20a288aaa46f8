use Rattle.std.proofs.Common.{sym, subst}
use Rattle.std.specs.Prelude.{Err}
use Rattle.uc_tstp.specs.Reading.{IsReadingInside}
use Rattle.uc_tstp.proofs.Readings.{line_fault_reading}
use Rattle.uc_tstp.proofs.InternedOnce.{whenever_read}
use Rattle.uc_tstp.proofs.reading.proof_in.Goals as goal

pub returns-in-Err-clause-reading : goal.returns-in-Err-clause-reading
returns-in-Err-clause-reading c = subst (λ e. IsReadingInside c.args.which c.lines_in.new.symbols c.args.bytes.now c.args.frame (Err e)) (sym c.line_fault.ensures) (line_fault_reading c.args.which c.lines_in.new.symbols c.args.bytes.now c.args.frame c.requires.frame c.args.tokens.now c.requires.tokens c.in-Err.stop c.in-Err.ensures.stops)

pub returns-in-Ok-clause-interns : goal.returns-in-Ok-clause-interns
returns-in-Ok-clause-interns c =
    let a = c.in-Ok.ensures.reads in
    whenever_read c.proof_of.result (record { tokens = c.args.tokens.now; are_tokens = c.requires.tokens; lines = a.parses; end = a.end; reads = a.reads; new_is = a.table_is })
