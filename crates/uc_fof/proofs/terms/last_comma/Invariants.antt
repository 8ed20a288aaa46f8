use Rattle.std.proofs.Common.{◌-◌}
use Rattle.uc_fof.proofs.FullArgs.{Goes}
use Rattle.uc_fof.proofs.terms.last_comma.Given as goal

abbrev pub invariant-arguments : goal.invariant-arguments
invariant-arguments l = Goes l.bytes l.tokens l.functor l.number l.at

abbrev pub decreases-arguments : goal.decreases-arguments
decreases-arguments l = 255 - l.number
