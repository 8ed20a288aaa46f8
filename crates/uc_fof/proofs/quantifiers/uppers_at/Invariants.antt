use Rattle.std.proofs.Common.{length, ◌-◌}
use Rattle.uc_fof.proofs.UpperLists.{Bounds}
use Rattle.uc_fof.proofs.quantifiers.uppers_at.Given as goal

abbrev pub invariant-uppers : goal.invariant-uppers
invariant-uppers l = Bounds l.bytes l.tokens l.conjecture l.from l.fn.bound l.bound l.at

abbrev pub decreases-uppers : goal.decreases-uppers
decreases-uppers l = length l.tokens - l.at
