use Rattle.std.proofs.Common.{◌≡◌, ◌+◌, ◌*◌, ◌^◌, ◌≤◌, length, drop}
use Rattle.uc_table.specs.Algebras.{place_of}
use Rattle.uc_table.specs.Tables.{AreValues}
use Rattle.uc_table.proofs.places.write_place.Given as goal

abbrev pub invariant-loop-at : goal.invariant-loop-at
invariant-loop-at l = (l.at ≤ length l.values) × AreValues l.size (drop l.at l.values) × (l.left * l.size ^ length (drop l.at l.values) + place_of l.size (drop l.at l.values) ≡ l.place) × (length l.values ≡ length l.initial.values)

abbrev pub decreases-loop-at : goal.decreases-loop-at
decreases-loop-at l = l.at
