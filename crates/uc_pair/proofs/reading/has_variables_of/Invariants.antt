use Rattle.std.proofs.Common.{take}
use Rattle.uc_term.proofs.NodeVars.{node_vars}
use Rattle.uc_pair.proofs.Occurring.{AllOccur}
use Rattle.uc_pair.proofs.reading.has_variables_of.Given as goal

abbrev pub invariant-loop-node : goal.invariant-loop-node
invariant-loop-node l = AllOccur (node_vars (take l.node-index l.nodes)) l.other
