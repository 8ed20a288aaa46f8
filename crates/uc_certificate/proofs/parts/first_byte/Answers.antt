use Rattle.std.proofs.Common.{refl, arith}
use Rattle.std.proofs.lemmas.Option.{slice_get_past}
use Rattle.uc_tstp.proofs.Places.{first_in}
use Rattle.uc_certificate.proofs.parts.first_byte.Goals as goal

pub returns-then-at-tokens-clause-within : goal.returns-then-at-tokens-clause-within
returns-then-at-tokens-clause-within c = first_in c.args.text.now c.args.tokens.now c.args.at c.requires c.if-at-tokens.true _

pub returns-else-at-tokens-clause-value : goal.returns-else-at-tokens-clause-value
returns-else-at-tokens-clause-value c = rw (slice_get_past c.args.tokens.now c.args.at (omega (arith, c.if-at-tokens.false))) refl
