use Rattle.std.proofs.Common.{◌≡◌, max, drop}
use Rattle.uc_table.specs.Against.{nodes_variables}
use Rattle.uc_table.proofs.checking.variables_in.Given as goal

abbrev pub invariant-loop-node : goal.invariant-loop-node
invariant-loop-node l = max l.count (nodes_variables (drop l.node-index l.node-items)) ≡ nodes_variables l.node-items
