use Rattle.std.proofs.Common.{length, ◌-◌, ◌≡◌, ◌≤◌, take}
use Rattle.uc_order.specs.VarOrders.{representative}
use Rattle.uc_order.specs.Renamed.{renamed_nodes}
use Rattle.uc_lpo.proofs.levels.first_difference.Given as goal

abbrev pub invariant-loop-at : goal.invariant-loop-at
invariant-loop-at l = record { in_s : l.at ≤ length l.s; in_t : l.at ≤ length l.t; common : take l.at (renamed_nodes (representative l.classes) l.s) ≡ take l.at (renamed_nodes (representative l.classes) l.t) }

abbrev pub decreases-loop-at : goal.decreases-loop-at
decreases-loop-at l = length l.s - l.at
