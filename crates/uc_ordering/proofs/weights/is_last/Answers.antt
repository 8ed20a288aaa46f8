use Rattle.std.proofs.Common.{◌∙◌, sym, ap, option_copied}
use Rattle.uc_ordering.proofs.Lasts.{last_is}
use Rattle.uc_ordering.proofs.weights.is_last.Goals as goal

pub returns-in-Some : goal.returns-in-Some
returns-in-Some c = last_is c.args.precedence.now c.in-Some.g.now c.args.f (sym (ap option_copied c.in-Some.is) ∙ c.last.ensures.value)
