use Rattle.std.proofs.Common.{arith}
use Rattle.std.specs.Prelude.{Ok, Err}
use Rattle.uc_clause.specs.Items as items
use Rattle.uc_clause.proofs.InText.{literal_ends}
use Rattle.uc_clause.proofs.Files.{stop_is_fault, is_literal, literal_complete, literal_refuses}
use Rattle.uc_clause.proofs.grammar.file.literal_at.Goals as goal

pub overflow_cast-result : goal.overflow_cast-result
overflow_cast-result c = omega (arith, literal_ends c.args.bytes.now c.args.tokens.now c.args.from c.in-Ok.field-0.pair.end c.in-Ok.ensures.reads.literal c.in-Ok.ensures.reads.reads)

pub returns-clause-refused : goal.returns-clause-refused
returns-clause-refused c = stop_is_fault (items.literal c.args.bytes.now c.args.tokens.now) c.args.bytes.now c.args.tokens.now c.args.from c.in-Err.stop c.refusal.result c.in-Err.ensures.stops c.refusal.ensures

pub returns-in-Ok-clause-complete : goal.returns-in-Ok-clause-complete
returns-in-Ok-clause-complete c =
    let answer = is_literal c.args.bytes.now c.args.tokens.now c.args.from c.equation_or_denial_at-found.new.symbols c.equation_or_denial_at-found.new.variables c.in-Ok.field-0 (rw c.new-variables.ensures at c.in-Ok.ensures.reads) in
    λ positive left right places end. literal_complete c.args.bytes.now c.args.tokens.now c.args.from c.equation_or_denial_at-found.new.symbols c.len.ensures.distinct (Ok (c.in-Ok.field-0.positive, c.in-Ok.field-0.pair.left, c.in-Ok.field-0.pair.right, c.from_vec.result, c.in-Ok.field-0.pair.end)) (rw c.from_vec.ensures answer) (positive, left, right, places, end)

pub returns-in-Ok-clause-refuses : goal.returns-in-Ok-clause-refuses
returns-in-Ok-clause-refuses c =
    let answer = is_literal c.args.bytes.now c.args.tokens.now c.args.from c.equation_or_denial_at-found.new.symbols c.equation_or_denial_at-found.new.variables c.in-Ok.field-0 (rw c.new-variables.ensures at c.in-Ok.ensures.reads) in
    literal_refuses c.args.bytes.now c.args.tokens.now c.args.from c.equation_or_denial_at-found.new.symbols (Ok (c.in-Ok.field-0.positive, c.in-Ok.field-0.pair.left, c.in-Ok.field-0.pair.right, c.from_vec.result, c.in-Ok.field-0.pair.end)) (rw c.from_vec.ensures answer)

pub returns-clause-complete : goal.returns-clause-complete
returns-clause-complete c =
    let refused = stop_is_fault (items.literal c.args.bytes.now c.args.tokens.now) c.args.bytes.now c.args.tokens.now c.args.from c.in-Err.stop c.refusal.result c.in-Err.ensures.stops c.refusal.ensures in
    λ positive left right places end. literal_complete c.args.bytes.now c.args.tokens.now c.args.from c.equation_or_denial_at-found.new.symbols c.len.ensures.distinct (Err c.refusal.result) refused (positive, left, right, places, end)

pub returns-clause-refuses : goal.returns-clause-refuses
returns-clause-refuses c =
    literal_refuses c.args.bytes.now c.args.tokens.now c.args.from c.equation_or_denial_at-found.new.symbols (Err c.refusal.result) (stop_is_fault (items.literal c.args.bytes.now c.args.tokens.now) c.args.bytes.now c.args.tokens.now c.args.from c.in-Err.stop c.refusal.result c.in-Err.ensures.stops c.refusal.ensures)
