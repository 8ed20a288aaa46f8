use Rattle.std.proofs.Common.{◌≡◌, drop, Result}
use Rattle.uc_term.specs.Tree.{Tree}
use Rattle.uc_check.specs.declared.checker.Cause.{Cause}
use Rattle.uc_check.specs.Replacements.{Leads, chain_end}
use Rattle.uc_check.proofs.chain.test_steps.Given as goal

abbrev pub invariant-loop-step : goal.invariant-loop-step
invariant-loop-step l = record {
  back : (end : Result Tree Cause) → Leads l.lines l.number l.before (drop l.step-index l.steps) end → Leads l.lines l.number l.start l.steps end;
  same : chain_end l.start l.steps ≡ chain_end l.before (drop l.step-index l.steps);
}
