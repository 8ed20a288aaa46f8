use Rattle.std.proofs.lemmas.Result.{err_from_is_err_and}
use Rattle.uc_tstp.proofs.Places.{begins_line}
use Rattle.uc_tstp.proofs.Readings.{frame_fault_reading, framed_reading}
use Rattle.uc_tstp.proofs.InternedOnce.{framed_interns}
use Rattle.uc_tstp.proofs.reading.read_proof.Goals as goal

pub returns-in_err-frame-clause-reading : goal.returns-in_err-frame-clause-reading
returns-in_err-frame-clause-reading c =
    let p = err_from_is_err_and c.from_residual.result c.from_residual.ensures.1 in
    rw (p.1, p.2) (frame_fault_reading c.args.symbols.now c.args.bytes.now c.in_err-frame.field-0.0 c.in_err-frame.ensures.framed)

pub read_inside-requires-clause-begins : goal.read_inside-requires-clause-begins
read_inside-requires-clause-begins c = begins_line c.args.bytes.now c.in_ok-frame.frame c.in_ok-frame.ensures.framed.1

pub returns-clause-reading : goal.returns-clause-reading
returns-clause-reading c = framed_reading c.read_inside.new.symbols c.args.bytes.now c.in_ok-frame.frame c.in_ok-frame.ensures.framed.1 c.read_inside.result c.read_inside.ensures.reading

pub returns-clause-interns : goal.returns-clause-interns
returns-clause-interns c = framed_interns c.args.bytes.now c.in_ok-frame.frame c.args.symbols.now c.read_inside.new.symbols c.in_ok-frame.ensures.framed.1 c.read_inside.result c.read_inside.ensures.interns
