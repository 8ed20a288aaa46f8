use Rattle.std.proofs.Common.{◌≡◌}
use Rattle.uc_worker.specs.Commits.{shares_of}
use Rattle.uc_worker.proofs.counting.shares.Given as goal

abbrev pub invariant-loop-worker : goal.invariant-loop-worker
invariant-loop-worker l = l.all.items ≡ shares_of l.worker l.history
