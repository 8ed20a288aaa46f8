use Rattle.std.proofs.Common.{◌≡◌, take, drop, flat_map}
use Rattle.uc_order.specs.VarOrders.{placed, grown, orders_of}
use Rattle.uc_order.proofs.listing.var_orders.Given as goal

abbrev pub invariant-loop-v : goal.invariant-loop-v
invariant-loop-v l = grown l.orders.items (drop l.v-index l.vars) ≡ orders_of l.vars

abbrev pub invariant-loop-o : goal.invariant-loop-o
invariant-loop-o l = l.grown.items ≡ flat_map (placed l.v) (take l.o-index l.o-items)
