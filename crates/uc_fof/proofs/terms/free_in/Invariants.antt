use Rattle.std.proofs.Common.{◌≤◌, ◌-◌}
use Rattle.uc_fof.specs.Given.{AreBound}
use Rattle.uc_fof.proofs.terms.free_in.Given as goal

abbrev pub invariant-tokens : goal.invariant-tokens
invariant-tokens l = record {
  ahead : l.from ≤ l.at;
  all : AreBound l.bytes l.tokens l.bound l.from l.at;
}

abbrev pub decreases-tokens : goal.decreases-tokens
decreases-tokens l = l.to - l.at
