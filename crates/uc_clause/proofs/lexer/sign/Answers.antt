use Rattle.std.proofs.Common.{rules}
use Rattle.uc_clause.proofs.Longest.{signed_at, sign_alone_at}
use Rattle.uc_clause.proofs.lexer.sign.Goals as goal

pub returns-in-0 : goal.returns-in-0
returns-in-0 c = sign_alone_at c.args.text.now c.requires.some c.requires.first (search rules)

pub returns-in_default : goal.returns-in_default
returns-in_default c = signed_at c.args.text.now _ c.requires.some c.requires.first c.digits_len.ensures.longest (search rules)
