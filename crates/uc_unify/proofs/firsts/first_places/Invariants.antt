use Rattle.std.proofs.Common.{◌≡◌, ℕ, ◌<◌, length}
use Rattle.uc_unify.specs.Closure.{IsFirstPlace, AreNoted, class}
use Rattle.uc_unify.proofs.firsts.first_places.Given as goal

abbrev pub invariant-loop-place : goal.invariant-loop-place
invariant-loop-place l = record {
  long : length l.firsts.items ≡ l.place;
  noted : AreNoted l.nodes l.place l.noted.items;
  first : (q : ℕ) → q < l.place → IsFirstPlace l.nodes q (class l.firsts.items q);
}
