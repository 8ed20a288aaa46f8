-- The order of classes is an order.
use Rattle.std.proofs.Common.{ℕ, arith}
use Rattle.uc_order.specs.VarOrders.{Classes, IsHigher}

pub higher_transitive : (cs : Classes) (x y z : ℕ) → IsHigher cs x y → IsHigher cs y z → IsHigher cs x z
higher_transitive cs x y z h k = omega (arith, h, k)

pub higher_irreflexive : (cs : Classes) (x : ℕ) → IsHigher cs x x → ⊥
higher_irreflexive cs x h = omega (arith, h)
