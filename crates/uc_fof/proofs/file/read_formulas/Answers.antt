use Rattle.std.proofs.Common.{inl, arith}
use Rattle.uc_fof.specs.Reading.{is_too_long}
use Rattle.uc_fof.proofs.Whole.{file_reads, file_refused, file_complete, file_refuses}
use Rattle.uc_fof.proofs.file.read_formulas.Goals as goal

pub returns-then-bytes-gt-MAX_BYTES-clause-refused : goal.returns-then-bytes-gt-MAX_BYTES-clause-refused
returns-then-bytes-gt-MAX_BYTES-clause-refused c = inl (is_too_long c.if-bytes-gt-MAX_BYTES.true)

pub returns-clause-reads : goal.returns-clause-reads
returns-clause-reads c = file_reads c.args.bytes.now c.items_of-result.new.symbols (omega arith) c.items_of-result.result c.items_of-result.ensures.reads

pub returns-clause-refused : goal.returns-clause-refused
returns-clause-refused c = file_refused c.args.bytes.now c.items_of-result.new.symbols (omega arith) c.items_of-result.result c.items_of-result.ensures.refused

pub returns-clause-complete : goal.returns-clause-complete
returns-clause-complete c = file_complete c.args.bytes.now c.items_of-result.new.symbols (omega arith) c.len.ensures.distinct c.items_of-result.result c.items_of-result.ensures.reads c.items_of-result.ensures.refused

pub returns-clause-refuses : goal.returns-clause-refuses
returns-clause-refuses c = file_refuses c.args.bytes.now c.items_of-result.new.symbols (omega arith) c.items_of-result.result c.items_of-result.ensures.reads c.items_of-result.ensures.refused
