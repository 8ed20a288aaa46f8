use Rattle.std.proofs.Common.{inl, arith}
use Rattle.uc_clause.specs.Reading.{is_too_long}
use Rattle.uc_clause.proofs.Files.{file_refused, file_complete, file_refuses}
use Rattle.uc_clause.proofs.grammar.file.read_items.Goals as goal

pub returns-then-bytes-gt-MAX_BYTES-clause-refused : goal.returns-then-bytes-gt-MAX_BYTES-clause-refused
returns-then-bytes-gt-MAX_BYTES-clause-refused c = inl (is_too_long c.if-bytes-gt-MAX_BYTES.true)

pub returns-clause-refused : goal.returns-clause-refused
returns-clause-refused c = file_refused c.args.bytes.now c.items_of-result.new.symbols (omega arith) c.items_of-result.result c.items_of-result.ensures.answer

pub returns-clause-complete : goal.returns-clause-complete
returns-clause-complete c = file_complete c.args.bytes.now c.items_of-result.new.symbols (omega arith) c.items_of-result.result c.items_of-result.ensures.answer c.len.ensures.distinct

pub returns-clause-refuses : goal.returns-clause-refuses
returns-clause-refuses c = file_refuses c.args.bytes.now c.items_of-result.new.symbols (omega arith) c.items_of-result.result c.items_of-result.ensures.answer
