use Rattle.std.proofs.Common.{arith}
use Rattle.std.specs.Prelude.{Ok, Err}
use Rattle.uc_clause.specs.Items as items
use Rattle.uc_clause.proofs.InText.{item_ends}
use Rattle.uc_clause.proofs.Files.{stop_is_fault, item_complete, item_refuses}
use Rattle.uc_clause.proofs.grammar.file.item_at.Goals as goal

pub overflow_cast-result : goal.overflow_cast-result
overflow_cast-result c = omega (arith, item_ends c.args.bytes.now c.args.tokens.now c.args.from c.in-Ok.end c.in-Ok.ensures.reads.entry c.in-Ok.ensures.reads.reads)

pub returns-in-Err-clause-refused : goal.returns-in-Err-clause-refused
returns-in-Err-clause-refused c = stop_is_fault (items.Item c.args.bytes.now c.args.tokens.now) c.args.bytes.now c.args.tokens.now c.args.from c.in-Err.stop c.refusal.result c.in-Err.ensures.stops c.refusal.ensures

pub returns-in-Ok-clause-complete : goal.returns-in-Ok-clause-complete
returns-in-Ok-clause-complete c = λ item end. item_complete c.args.bytes.now c.args.tokens.now c.args.from c.item_in-found.new.symbols c.len.ensures.distinct (Ok (c.in-Ok.item, c.in-Ok.end)) c.in-Ok.ensures.reads (item, end)

pub returns-in-Ok-clause-refuses : goal.returns-in-Ok-clause-refuses
returns-in-Ok-clause-refuses c = item_refuses c.args.bytes.now c.args.tokens.now c.args.from c.item_in-found.new.symbols (Ok (c.in-Ok.item, c.in-Ok.end)) c.in-Ok.ensures.reads

pub returns-in-Err-clause-complete : goal.returns-in-Err-clause-complete
returns-in-Err-clause-complete c =
    let refused = stop_is_fault (items.Item c.args.bytes.now c.args.tokens.now) c.args.bytes.now c.args.tokens.now c.args.from c.in-Err.stop c.refusal.result c.in-Err.ensures.stops c.refusal.ensures in
    λ item end. item_complete c.args.bytes.now c.args.tokens.now c.args.from c.item_in-found.new.symbols c.len.ensures.distinct (Err c.refusal.result) refused (item, end)

pub returns-in-Err-clause-refuses : goal.returns-in-Err-clause-refuses
returns-in-Err-clause-refuses c =
    item_refuses c.args.bytes.now c.args.tokens.now c.args.from c.item_in-found.new.symbols (Err c.refusal.result) (stop_is_fault (items.Item c.args.bytes.now c.args.tokens.now) c.args.bytes.now c.args.tokens.now c.args.from c.in-Err.stop c.refusal.result c.in-Err.ensures.stops c.refusal.ensures)
