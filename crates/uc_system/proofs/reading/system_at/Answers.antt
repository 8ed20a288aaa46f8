use Rattle.std.proofs.lemmas.Result.{err_from_is_err_and}
use Rattle.uc_system.proofs.Readers.{header_fails, header_gives}
use Rattle.uc_system.proofs.Interned.{system_interns}
use Rattle.uc_system.proofs.reading.system_at.Goals as goal

pub returns-in_err-header-clause-reads : goal.returns-in_err-header-clause-reads
returns-in_err-header-clause-reads c =
    let p = err_from_is_err_and c.from_residual.result c.from_residual.ensures.1 in
    rw (p.1, p.2) (header_fails c.args.symbols.now c.args.bytes.now c.args.at c.in_err-header.field-0.0 c.in_err-header.ensures)

pub returns-clause-reads : goal.returns-clause-reads
returns-clause-reads c = header_gives c.body_at.new.symbols c.args.bytes.now c.args.at c.in_ok-header.at c.in_ok-header.header c.body_at.result c.in_ok-header.ensures c.body_at.ensures.reads

pub returns-clause-interns : goal.returns-clause-interns
returns-clause-interns c = system_interns c.args.bytes.now c.args.at c.in_ok-header.at c.in_ok-header.header c.args.symbols.now c.body_at.new.symbols c.body_at.result c.in_ok-header.ensures c.body_at.ensures.interns
