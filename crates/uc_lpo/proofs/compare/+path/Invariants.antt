use Rattle.std.proofs.Common.{length, ◌-◌, ◌↔◌, ◌+◌, ◌≤◌, drop, ◌*◌}
use Rattle.uc_term.specs.Flat.{tree_of, trees_of}
use Rattle.uc_lpo.specs.PathOrder.{PathOrder, SomeReaches, Exceeds}
use Rattle.uc_lpo.specs.Rests.{Says, IsWithin, size}
use Rattle.uc_lpo.proofs.Fronts.{Common}
use Rattle.uc_lpo.proofs.Climbed.{Climbed}
use Rattle.uc_lpo.specs.Shown.{shown, shown_all}
use Rattle.uc_lpo.specs.Ranks.{rank_of}
use Rattle.uc_order.specs.VarOrders.{representative, IsHigher}
use Rattle.uc_lpo.proofs.compare.+path.Given as goal

abbrev pub decreases-exceeds : goal.decreases-exceeds
decreases-exceeds l = 5 * (length l.s.now + length l.ts.now) + 5

abbrev pub decreases-reaches : goal.decreases-reaches
decreases-reaches l = 5 * (length l.ss.now + length l.t.now) + 5

abbrev pub decreases-left_to_exceed : goal.decreases-left_to_exceed
decreases-left_to_exceed l = 5 * (length l.s.now + length l.ts.now) + 5

abbrev pub decreases-left_to_reach : goal.decreases-left_to_reach
decreases-left_to_reach l = 5 * (length l.ss.now + length l.t.now) + 5

abbrev pub decreases-greater : goal.decreases-greater
decreases-greater l = 5 * (length l.s.now + length l.t.now) + 4

abbrev pub decreases-step : goal.decreases-step
decreases-step l = 5 * (length l.s.now + length l.t.now) + 3

abbrev pub decreases-differs : goal.decreases-differs
decreases-differs l = 5 * (length l.s.now + length l.t.now) + 1

abbrev pub decreases-parts : goal.decreases-parts
decreases-parts l = 5 * (length l.s.now + length l.t.now) + 5

abbrev pub decreases-from_difference : goal.decreases-from_difference
decreases-from_difference l = 5 * (length l.s.now + length l.t.now) + 2

abbrev pub decreases-climb : goal.decreases-climb
decreases-climb l = 5 * (length l.s.now + length l.t.now) + 1

abbrev pub invariant-climb-loop-from : goal.invariant-climb-loop-from
invariant-climb-loop-from l = Climbed l.ranks l.classes l.s l.t l.at l.part l.from l.done l.s_to l.t_to l.rest

abbrev pub decreases-climb-loop-from : goal.decreases-climb-loop-from
decreases-climb-loop-from l = l.from

abbrev pub decreases-around : goal.decreases-around
decreases-around l = 5 * (length l.s.now + length l.t.now)

abbrev pub invariant-greater-loop-rest : goal.invariant-greater-loop-rest
invariant-greater-loop-rest l = record {
  says : Says l.ranks l.classes l.rest (PathOrder (rank_of l.ranks) (IsHigher l.classes) (shown (representative l.classes) (tree_of l.fn.s)) (shown (representative l.classes) (tree_of l.fn.t)));
  within : IsWithin (length l.fn.s + length l.fn.t + 1) l.rest;
}

abbrev pub decreases-greater-loop-rest : goal.decreases-greater-loop-rest
decreases-greater-loop-rest l = size l.rest

abbrev pub invariant-differs-loop-from : goal.invariant-differs-loop-from
invariant-differs-loop-from l = record {
  begun : 1 ≤ l.from;
  in_s : l.from ≤ length l.s;
  in_t : l.from ≤ length l.t;
  common : Common (shown_all (representative l.classes) (trees_of (drop 1 l.s))) (shown_all (representative l.classes) (trees_of (drop 1 l.t))) (shown_all (representative l.classes) (trees_of (drop l.from l.s))) (shown_all (representative l.classes) (trees_of (drop l.from l.t)));
}

abbrev pub decreases-differs-loop-from : goal.decreases-differs-loop-from
decreases-differs-loop-from l = length l.s - l.from

abbrev pub invariant-exceeds-loop-from : goal.invariant-exceeds-loop-from
invariant-exceeds-loop-from l = record {
  within : l.from ≤ length l.ts;
  left : Exceeds (rank_of l.ranks) (IsHigher l.classes) (shown (representative l.classes) (tree_of l.s)) (shown_all (representative l.classes) (trees_of l.ts)) ↔ Exceeds (rank_of l.ranks) (IsHigher l.classes) (shown (representative l.classes) (tree_of l.s)) (shown_all (representative l.classes) (trees_of (drop l.from l.ts)));
}

abbrev pub decreases-exceeds-loop-from : goal.decreases-exceeds-loop-from
decreases-exceeds-loop-from l = length l.ts - l.from

abbrev pub invariant-reaches-loop-from : goal.invariant-reaches-loop-from
invariant-reaches-loop-from l = record {
  within : l.from ≤ length l.ss;
  left : SomeReaches (rank_of l.ranks) (IsHigher l.classes) (shown_all (representative l.classes) (trees_of l.ss)) (shown (representative l.classes) (tree_of l.t)) ↔ SomeReaches (rank_of l.ranks) (IsHigher l.classes) (shown_all (representative l.classes) (trees_of (drop l.from l.ss))) (shown (representative l.classes) (tree_of l.t));
}

abbrev pub decreases-reaches-loop-from : goal.decreases-reaches-loop-from
decreases-reaches-loop-from l = length l.ss - l.from

abbrev pub invariant-left_to_exceed-loop-from : goal.invariant-left_to_exceed-loop-from
invariant-left_to_exceed-loop-from l = record {
  within : l.from ≤ length l.ts;
  left : Exceeds (rank_of l.ranks) (IsHigher l.classes) (shown (representative l.classes) (tree_of l.s)) (shown_all (representative l.classes) (trees_of l.ts)) ↔ Exceeds (rank_of l.ranks) (IsHigher l.classes) (shown (representative l.classes) (tree_of l.s)) (shown_all (representative l.classes) (trees_of (drop l.from l.ts)));
}

abbrev pub decreases-left_to_exceed-loop-from : goal.decreases-left_to_exceed-loop-from
decreases-left_to_exceed-loop-from l = length l.ts - l.from

abbrev pub invariant-left_to_reach-loop-from : goal.invariant-left_to_reach-loop-from
invariant-left_to_reach-loop-from l = record {
  within : l.from ≤ length l.ss;
  left : SomeReaches (rank_of l.ranks) (IsHigher l.classes) (shown_all (representative l.classes) (trees_of l.ss)) (shown (representative l.classes) (tree_of l.t)) ↔ SomeReaches (rank_of l.ranks) (IsHigher l.classes) (shown_all (representative l.classes) (trees_of (drop l.from l.ss))) (shown (representative l.classes) (tree_of l.t));
}

abbrev pub decreases-left_to_reach-loop-from : goal.decreases-left_to_reach-loop-from
decreases-left_to_reach-loop-from l = length l.ss - l.from
