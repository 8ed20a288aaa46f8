use Rattle.std.proofs.Common.{length, ◌-◌, ◌≡◌, ℕ, ◌<◌, ◌≤◌, Some, false, IsTrue}
use Rattle.std.specs.Prelude.{slice_get, slice_index_or}
use Rattle.uc_disc.specs.declared.place.Label.TheVariants.{Leaf}
use Rattle.uc_disc.specs.declared.place.Place.{Place}
use Rattle.uc_disc.proofs.idle.idle_end.Given as goal

abbrev pub invariant-loop-end : goal.invariant-loop-end
invariant-loop-end l = (l.end ≤ length l.places) × ((j : ℕ) (p : Place) (r : ℕ) → j < l.end → slice_get l.places j ≡ Some p → p.label ≡ Leaf r → IsTrue (slice_index_or l.marks r false))

abbrev pub decreases-loop-end : goal.decreases-loop-end
decreases-loop-end l = length l.places - l.end
