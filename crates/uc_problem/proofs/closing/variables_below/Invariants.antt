use Rattle.std.proofs.Common.{◌≡◌, drop, max}
use Rattle.uc_problem.specs.Conjecture.{variables_below}
use Rattle.uc_problem.proofs.closing.variables_below.Given as goal

abbrev pub invariant-loop-node : goal.invariant-loop-node
invariant-loop-node l = max l.below (variables_below (drop l.node-index l.nodes)) ≡ variables_below l.nodes
