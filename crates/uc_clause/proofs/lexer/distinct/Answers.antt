use Rattle.uc_clause.proofs.QuotedAt.{distinct_at, distinct_open}
use Rattle.uc_clause.proofs.lexer.distinct.Goals as goal

pub returns-in-Some : goal.returns-in-Some
returns-in-Some c = distinct_at c.args.text.now _ c.requires.some c.requires.first c.in-Some.ensures.some.0 c.in-Some.ensures.some.1

pub returns-in-None : goal.returns-in-None
returns-in-None c = distinct_open c.args.text.now c.requires.some c.requires.first c.in-None.ensures.none
