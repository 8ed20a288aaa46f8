use Rattle.std.proofs.Common.{◌≡◌, take}
use Rattle.uc_order.specs.VarOrders.{representative}
use Rattle.uc_order.specs.Renamed.{renamed_nodes}
use Rattle.uc_order.proofs.classes.represent.Given as goal

abbrev pub invariant-loop-n : goal.invariant-loop-n
invariant-loop-n l = l.list.items ≡ renamed_nodes (representative l.cases) (take l.n-index l.n-items)
