use Rattle.std.proofs.Common.{◌-◌, ◌≤◌, length}
use Rattle.uc_disc.proofs.seats.fill.Given as goal

abbrev pub invariant-loop-seats : goal.invariant-loop-seats
invariant-loop-seats l = length l.seats.items ≤ l.most

abbrev pub decreases-loop-seats : goal.decreases-loop-seats
decreases-loop-seats l = l.most - length l.seats.items
