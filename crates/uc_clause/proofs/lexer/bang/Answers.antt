use Rattle.std.proofs.Common.{rules}
use Rattle.uc_clause.proofs.Longest.{unequal_at, bang_at}
use Rattle.uc_clause.proofs.lexer.bang.Goals as goal

pub returns-then-second_is : goal.returns-then-second_is
returns-then-second_is c = search (rules, unequal_at)

pub returns-else-second_is : goal.returns-else-second_is
returns-else-second_is c = search (rules, bang_at)
