use Rattle.std.proofs.Common.{◌≡◌, ◌≤◌, ℕ, List, length, drop, is_some, bytes_eq}
use Rattle.std.specs.List.{list_any}
use Rattle.uc_ordering.specs.Numbers.{number_in}
use Rattle.uc_ordering.proofs.Again.{Found}
use Rattle.uc_ordering.proofs.options.put_names.Given as goal

abbrev pub invariant-loop-place : goal.invariant-loop-place
invariant-loop-place l = (l.place ≤ length l.names) × ((name : List ℕ) → is_some (number_in l.set.map.entries name) ≡ list_any (bytes_eq name) (drop l.place l.names)) × Found l.names l.place l.again

abbrev pub decreases-loop-place : goal.decreases-loop-place
decreases-loop-place l = l.place
