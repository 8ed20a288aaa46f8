use Rattle.std.proofs.Common.{arith}
use Rattle.uc_table.proofs.Rows.{goes_further, goes_no_further}
use Rattle.uc_table.proofs.Canonical.{is_canonical}
use Rattle.uc_table.proofs.reading.read_table.Goals as goal

pub returns-then-end-bytes-clause-reading : goal.returns-then-end-bytes-clause-reading
returns-then-end-bytes-clause-reading c = rw c.departs.ensures (goes_further c.args.symbols.now c.args.signature.now c.args.bytes.now (omega arith) c.in_ok-table.table c.in_ok-table.end.number c.in_ok-table.end.from c.in_ok-table.ensures.0 c.if-end-bytes.true)

pub returns-clause-table : goal.returns-clause-table
returns-clause-table c =
    (is_canonical c.args.symbols.now c.args.signature.now c.in_ok-table.table c.args.bytes.now (goes_no_further c.args.symbols.now c.args.signature.now c.args.bytes.now (omega arith) c.in_ok-table.table c.in_ok-table.end.number c.in_ok-table.end.from c.in_ok-table.ensures.0 c.if-end-bytes.false)).0

pub returns-clause-printed : goal.returns-clause-printed
returns-clause-printed c =
    (is_canonical c.args.symbols.now c.args.signature.now c.in_ok-table.table c.args.bytes.now (goes_no_further c.args.symbols.now c.args.signature.now c.args.bytes.now (omega arith) c.in_ok-table.table c.in_ok-table.end.number c.in_ok-table.end.from c.in_ok-table.ensures.0 c.if-end-bytes.false)).1
