use Rattle.std.proofs.Common.{refl}
use Rattle.std.proofs.lemmas.Result.{err_from_is_err_and}
use Rattle.uc_system.proofs.Readers.{system_fails, further, is_read, says, is_system}
use Rattle.uc_system.proofs.reading.read_system.Goals as goal

pub returns-in_err-text-clause-reading : goal.returns-in_err-text-clause-reading
returns-in_err-text-clause-reading c =
    let p = err_from_is_err_and c.from_residual.result c.from_residual.ensures.1 in
    rw (p.1, p.2) (system_fails c.system_at.new.symbols c.args.bytes.now (record { from = 0; number = 1 }) refl refl c.in_err-text.field-0.0 c.in_err-text.ensures.reads)

pub returns-then-end-bytes-clause-reading : goal.returns-then-end-bytes-clause-reading
returns-then-end-bytes-clause-reading c = rw c.departs.ensures (further c.system_at.new.symbols c.args.bytes.now (record { from = 0; number = 1 }) refl refl c.in_ok-text.text c.in_ok-text.end c.in_ok-text.ensures.reads c.if-end-bytes.true)

pub returns-clause-reading : goal.returns-clause-reading
returns-clause-reading c = is_read c.system_at.new.symbols c.args.bytes.now (record { from = 0; number = 1 }) refl refl c.in_ok-text.text c.in_ok-text.end c.in_ok-text.ensures.reads c.if-end-bytes.false

pub returns-clause-says : goal.returns-clause-says
returns-clause-says c = says c.system_at.new.symbols c.args.bytes.now (record { from = 0; number = 1 }) refl refl c.in_ok-text.text c.in_ok-text.end c.in_ok-text.ensures.reads c.if-end-bytes.false

pub returns-clause-system : goal.returns-clause-system
returns-clause-system c = is_system c.system_at.new.symbols c.args.bytes.now (record { from = 0; number = 1 }) refl refl c.in_ok-text.text c.in_ok-text.end c.in_ok-text.ensures.reads

pub returns-clause-interns : goal.returns-clause-interns
returns-clause-interns c = c.in_ok-text.ensures.interns
