use Rattle.uc_system.proofs.SidesRead.{no_tokens, refused_tokens}
use Rattle.uc_system.proofs.sides.large_term.Goals as goal

pub returns-in-Err-Syntax : goal.returns-in-Err-Syntax
returns-in-Err-Syntax c = no_tokens c.args.symbols.now c.args.known.now.keys c.requires.known c.args.text.now (λ ts are. refused_tokens c.tokens.result ts c.in-Err-Syntax.field-0 c.in-Err-Syntax.field-0-0 c.in-Err-Syntax.is c.in-Err-Syntax.field-0-is (c.tokens.ensures.complete ts are))
