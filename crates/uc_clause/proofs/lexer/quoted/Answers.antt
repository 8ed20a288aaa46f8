use Rattle.uc_clause.proofs.QuotedAt.{quoted_at, quoted_open, quoted_empty}
use Rattle.uc_clause.proofs.lexer.quoted.Goals as goal

pub returns-then-text-eq39 : goal.returns-then-text-eq39
returns-then-text-eq39 c = quoted_empty c.args.text.now c.requires.some c.requires.first c.if-text-eq1.false c.if-text-eq39.true

pub returns-in-Some : goal.returns-in-Some
returns-in-Some c = quoted_at c.args.text.now _ c.requires.some c.requires.first c.if-text-eq1.false c.if-text-eq39.false c.in-Some.ensures.some.0 c.in-Some.ensures.some.1

pub returns-in-None : goal.returns-in-None
returns-in-None c = quoted_open c.args.text.now c.requires.some c.requires.first c.in-None.ensures.none
