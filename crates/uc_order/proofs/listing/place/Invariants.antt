use Rattle.std.proofs.Common.{◌≡◌, ◌++◌, ◌≤◌, length}
use Rattle.uc_order.specs.VarOrders.{placed}
use Rattle.uc_order.specs.Places.{placed_from}
use Rattle.uc_order.proofs.listing.place.Given as goal

abbrev pub invariant-loop-i : goal.invariant-loop-i
invariant-loop-i l = (l.i ≤ length l.order) × (l.all.items ++ placed_from l.v l.order l.i ≡ l.initial.all.items ++ placed l.v l.order)
