use Rattle.std.proofs.Common.{◌≡◌, drop}
use Rattle.uc_order.specs.VarOrders.{representative}
use Rattle.uc_order.proofs.classes.first_of_class.Given as goal

abbrev pub invariant-loop-class : goal.invariant-loop-class
invariant-loop-class l = representative l.classes l.x ≡ representative (drop l.class-index l.classes) l.x
