use Rattle.std.proofs.Common.{◌≡◌, ◌+◌, drop}
use Rattle.uc_order.specs.VarOrders.{class_of}
use Rattle.uc_order.proofs.classes.class_number.Given as goal

abbrev pub invariant-loop-class : goal.invariant-loop-class
invariant-loop-class l = (l.at ≡ l.class-index) × (class_of l.classes l.x ≡ l.class-index + class_of (drop l.class-index l.classes) l.x)
