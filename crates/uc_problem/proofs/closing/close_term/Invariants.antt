use Rattle.std.proofs.Common.{◌≡◌, ◌++◌, map, drop}
use Rattle.uc_problem.specs.Closing.{closed_node}
use Rattle.uc_problem.proofs.closing.close_term.Given as goal

abbrev pub invariant-loop-node : goal.invariant-loop-node
invariant-loop-node l = l.nodes.items ++ map (closed_node l.constants) (drop l.node-index l.node-items) ≡ map (closed_node l.constants) l.node-items
