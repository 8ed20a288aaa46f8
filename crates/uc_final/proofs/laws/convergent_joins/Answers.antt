use Rattle.std.proofs.Common.{refl}
use Rattle.uc_machine.specs.declared.task.Outcome.TheVariants.{Convergent}
use Rattle.uc_final.proofs.Converged.{converged}
use Rattle.uc_final.proofs.laws.convergent_joins.Goals as goal

pub returns : goal.returns
returns g c axioms s system f over = converged (g.O.Order.meaning c.args.order.now) (g.met.O.Order.laws c.args.order.now) axioms s (Convergent system) system refl f over
