use Rattle.std.proofs.Common.{◌≡◌, take}
use Rattle.uc_certify.proofs.ends.are_same_classes.Given as goal

abbrev pub invariant-loop-k : goal.invariant-loop-k
invariant-loop-k l = take l.k l.a ≡ take l.k l.b
