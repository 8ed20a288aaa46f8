use Rattle.std.proofs.Common.{◌≡◌, ◌≤◌, ◌+◌, ◌++◌, length, take}
use Rattle.uc_term.proofs.NodeVars.{node_vars}
use Rattle.uc_certify.proofs.variables.add_variables.Given as goal

abbrev pub invariant-loop-node : goal.invariant-loop-node
invariant-loop-node l =
    (l.vars.items ≡ l.fn.vars.items ++ node_vars (take l.node-index l.nodes)) ×
    (length l.vars.items ≤ length l.fn.vars.items + l.node-index)
