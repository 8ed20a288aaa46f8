use Rattle.std.proofs.Common.{◌∙◌, sym, ap, option_copied}
use Rattle.uc_ordering.proofs.Lasts.{ends_is}
use Rattle.uc_ordering.proofs.choice.ends_in_zero.Goals as goal

pub returns-in-Some : goal.returns-in-Some
returns-in-Some c = sym (ends_is c.args.weights.now c.in-Some.weight.now (sym (ap option_copied c.in-Some.is) ∙ c.last.ensures.value))
