use Rattle.std.proofs.Common.{take}
use Rattle.uc_term.proofs.NodeVars.{node_vars}
use Rattle.uc_clause.specs.Printable.{AreNumbered}
use Rattle.uc_certificate.proofs.bounds.see_term.Given as goal

abbrev pub invariant-loop-node : goal.invariant-loop-node
invariant-loop-node l = AreNumbered (node_vars (take l.node-index l.nodes))
