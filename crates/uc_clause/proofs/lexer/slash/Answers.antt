use Rattle.std.proofs.Common.{rules}
use Rattle.uc_clause.proofs.BlockLemmas.{block_at, block_open, slash_at}
use Rattle.uc_clause.proofs.lexer.slash.Goals as goal

pub returns-in-Some : goal.returns-in-Some
returns-in-Some c = block_at c.args.text.now _ c.requires.first (search rules) (search rules) c.in-Some.ensures.some.0 c.in-Some.ensures.some.1

pub returns-in-None : goal.returns-in-None
returns-in-None c = block_open c.args.text.now c.requires.first (search rules) (search rules) c.in-None.ensures.none

pub returns-else-second_is : goal.returns-else-second_is
returns-else-second_is c = search (rules, slash_at)
