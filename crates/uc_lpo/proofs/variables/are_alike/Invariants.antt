use Rattle.std.proofs.Common.{◌≡◌, ◌↔◌, map, drop}
use Rattle.uc_order.specs.VarOrders.{representative}
use Rattle.uc_order.specs.Renamed.{renamed_node}
use Rattle.uc_lpo.proofs.variables.are_alike.Given as goal

abbrev pub invariant-loop-i : goal.invariant-loop-i
invariant-loop-i l =
    (map (renamed_node (representative l.classes)) l.s ≡ map (renamed_node (representative l.classes)) l.t)
    ↔ (map (renamed_node (representative l.classes)) (drop l.i l.s) ≡ map (renamed_node (representative l.classes)) (drop l.i l.t))
