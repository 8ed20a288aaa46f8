use Rattle.std.proofs.Common.{◌≡◌, take}
use Rattle.uc_final.proofs.Gathered.{origins_of}
use Rattle.uc_final.proofs.testing.tests_of.Given as goal

abbrev pub invariant-loop-origin : goal.invariant-loop-origin
invariant-loop-origin l = origins_of l.tests.items ≡ take l.origin-index l.origins
