use Rattle.std.proofs.Common.{arith}
use Rattle.uc_fof.proofs.ItemParts.{begins_within, only_memory, is_literal}
use Rattle.uc_fof.proofs.file.literal_of.Goals as goal

pub overflow_cast-from : goal.overflow_cast-from
overflow_cast-from c = omega (arith, begins_within c.args.bytes.now c.args.tokens.now c.args.from c.args.conjecture c.requires.begins)

pub literal_at-requires-clause-within : goal.literal_at-requires-clause-within
literal_at-requires-clause-within c = begins_within c.args.bytes.now c.args.tokens.now c.args.from c.args.conjecture c.requires.begins

pub returns-in-Ok-clause-reads : goal.returns-in-Ok-clause-reads
returns-in-Ok-clause-reads c = is_literal c.args.bytes.now c.args.tokens.now c.args.from c.args.symbols.now c.literal_at.new.symbols c.in-Ok.positive c.in-Ok.left c.in-Ok.right c.in-Ok.places c.in-Ok.field-0-4 c.in-Ok.ensures.reads c.in-Ok.ensures.interns

pub no_memory-requires : goal.no_memory-requires
no_memory-requires c = only_memory c.args.bytes.now c.args.tokens.now c.args.from c.args.conjecture c.requires.begins c.in-Err.fault c.in-Err.ensures.refused
