use Rattle.std.proofs.Common.{subst}
use Rattle.uc_certify.specs.Testing.{MakesAc}
use Rattle.uc_certify.proofs.Lists.{of, not_of}
use Rattle.uc_certify.proofs.ac_ends.symbol_of.Goals as goal

pub returns-in_default : goal.returns-in_default
returns-in_default c = λ f m. c.in_default.ensures f m.comm_is

pub returns-then-not-make_ac : goal.returns-then-not-make_ac
returns-then-not-make_ac c = λ f m. not_of c.make_ac.result c.if-not-make_ac.true c.make_ac.ensures (subst (MakesAc c.args.facts.now c.args.triple) (c.in-Some.ensures f m.comm_is) m)

pub returns : goal.returns
returns c = of c.make_ac.result c.if-not-make_ac.false c.make_ac.ensures
