use Rattle.std.proofs.Common.{refl}
use Rattle.uc_certify.specs.declared.certified.Certified.TheVariants.{Yes}
use Rattle.uc_certify.proofs.Decided.{certified_decides}
use Rattle.uc_certify.proofs.laws.certified_decides.Goals as goal

pub returns : goal.returns
returns g c clauses encoded certificate h order over e = certified_decides (g.O.Order.meaning c.args.order.now) (g.met.O.Order.laws c.args.order.now) clauses encoded certificate Yes refl h order over e
