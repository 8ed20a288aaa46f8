use Rattle.std.proofs.Common.{◌≡◌, List, [], take, All}
use Rattle.uc_fact.specs.Live.{Rule}
use Rattle.uc_disc.specs.Trail.{trail}
use Rattle.uc_disc.specs.Building.{IsBuilt, IsSpelled, rules_spelled}
use Rattle.uc_disc.proofs.build.places_of.Given as goal

abbrev pub invariant-loop-spelled : goal.invariant-loop-spelled
invariant-loop-spelled l = (rules : List Rule) → All (IsSpelled rules) l.list → IsBuilt rules (rules_spelled (take l.spelled-index l.list)) l.places.items × (trail [] l.places.items ≡ l.before)
