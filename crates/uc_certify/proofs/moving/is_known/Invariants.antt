use Rattle.std.proofs.Common.{take}
use Rattle.uc_order.specs.Members.{Each}
use Rattle.uc_certify.specs.Knowing.{IsKnownNode}
use Rattle.uc_certify.proofs.moving.is_known.Given as goal

abbrev pub invariant-loop-node : goal.invariant-loop-node
invariant-loop-node g l = Each (IsKnownNode (g.C.Comparison.meaning l.comparison).symbols (g.C.Comparison.knows l.comparison)) (take l.node-index l.nodes)
