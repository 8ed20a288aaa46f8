use Rattle.std.proofs.Common.{◌≡◌, ◌≤◌, ℕ, length, map, slice_get, Some}
use Rattle.uc_disc.specs.declared.place.Place.{Place}
use Rattle.uc_disc.specs.Trail.{bare, IsMark}
use Rattle.uc_disc.proofs.build.set_marks.Given as goal

abbrev pub invariant-loop-i : goal.invariant-loop-i
invariant-loop-i l = (l.i ≤ length l.places) × (map bare l.places ≡ map bare l.initial.places) × ((j : ℕ) (p : Place) → l.i ≤ j → slice_get l.places j ≡ Some p → IsMark l.places j p)

abbrev pub decreases-loop-i : goal.decreases-loop-i
decreases-loop-i l = l.i
