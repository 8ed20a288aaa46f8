use Rattle.std.proofs.Common.{◌≤◌, ◌+◌, ◌-◌, length}
use Rattle.uc_system.specs.Passing.{state_of, start, Reaches}
use Rattle.uc_system.proofs.pass.Pass.over.Given as goal

abbrev pub invariant-steps : goal.invariant-steps
invariant-steps l = record {
  reaches : Reaches l.symbols l.known.keys l.text l.tokens (start l.from l.seen) (state_of l.pass);
  nodes : l.pass.nodes ≤ l.pass.at;
  seen : l.pass.seen ≤ l.pass.at;
  near : l.pass.at ≤ length l.tokens + 1;
}

abbrev pub decreases-steps : goal.decreases-steps
decreases-steps l = length l.tokens + 2 - l.pass.at
