use Rattle.std.proofs.Common.{◌≡◌, false, take}
use Rattle.uc_term.specs.Variables.{is_among}
use Rattle.uc_term.proofs.NodeVars.{node_vars}
use Rattle.uc_pair.proofs.reading.has_variable.Given as goal

abbrev pub invariant-loop-node : goal.invariant-loop-node
invariant-loop-node l = is_among l.x (node_vars (take l.node-index l.nodes)) ≡ false
