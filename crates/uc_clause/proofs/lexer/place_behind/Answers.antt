use Rattle.std.proofs.Common.{refl, []}
use Rattle.uc_clause.proofs.lexer.place_behind.Goals as goal

pub returns : goal.returns
returns c = c.advance.ensures [] refl
