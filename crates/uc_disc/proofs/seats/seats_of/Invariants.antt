use Rattle.std.proofs.Common.{◌≤◌, length}
use Rattle.uc_disc.proofs.seats.seats_of.Given as goal

abbrev pub invariant-loop-place : goal.invariant-loop-place
invariant-loop-place l = length l.seats.items ≤ l.most
