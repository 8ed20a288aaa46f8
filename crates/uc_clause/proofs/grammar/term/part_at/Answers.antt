use Rattle.uc_clause.proofs.Parts.{read_whole, read_small, read_part, read_interns}
use Rattle.uc_clause.proofs.grammar.term.part_at.Goals as goal

pub into_part-requires-clause-whole : goal.into_part-requires-clause-whole
into_part-requires-clause-whole c = read_whole c.args.bytes.now c.args.tokens.now c.args.from c.args.variables.now c.args.symbols.now c.in_ok-draft.draft c.read.new.variables c.read.new.symbols c.in_ok-draft.ensures.reads

pub into_part-requires-clause-small : goal.into_part-requires-clause-small
into_part-requires-clause-small c = read_small c.args.bytes.now c.args.tokens.now c.args.from c.args.variables.now c.args.symbols.now c.in_ok-draft.draft c.read.new.variables c.read.new.symbols c.in_ok-draft.ensures.reads

pub returns-clause-reads : goal.returns-clause-reads
returns-clause-reads c = read_part c.args.bytes.now c.args.tokens.now c.args.from c.args.variables.now c.args.symbols.now c.in_ok-draft.draft c.read.new.variables c.read.new.symbols c.in_ok-draft.ensures.reads c.into_part.result c.into_part.ensures

pub returns-clause-interns : goal.returns-clause-interns
returns-clause-interns c = read_interns c.args.bytes.now c.args.tokens.now c.args.from c.args.variables.now c.args.symbols.now c.in_ok-draft.draft c.read.new.variables c.read.new.symbols c.in_ok-draft.ensures.reads c.into_part.result c.into_part.ensures
