use Rattle.std.proofs.Common.{drop, length, ◌-◌}
use Rattle.bench_orders.proofs.Whole.{Closes}
use Rattle.bench_orders.proofs.deep.is_whole.Given as goal

abbrev pub invariant-loop-at : goal.invariant-loop-at
invariant-loop-at l = Closes l.pending (drop l.at l.list) → Closes 1 l.list

abbrev pub decreases-loop-at : goal.decreases-loop-at
decreases-loop-at l = length l.list - l.at
