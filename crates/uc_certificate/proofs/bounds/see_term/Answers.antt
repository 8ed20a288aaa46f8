use Rattle.std.proofs.Common.{arith}
use Rattle.uc_clause.proofs.Printing.{numbered_more, numbered_end}
use Rattle.uc_certificate.proofs.bounds.see_term.Goals as goal

pub loop-node-preserved : goal.loop-node-preserved
loop-node-preserved c = numbered_more c.as_nodes-nodes.result.now c.loop-node.node-index _ c.loop-node-test.true c.loop-node.invariant c.see_node.ensures

pub returns : goal.returns
returns c = (c.as_nodes-nodes.ensures.small, numbered_end c.as_nodes-nodes.result.now c.args.term.now c.loop-node.node-index c.as_nodes-nodes.ensures.value (omega arith) c.loop-node.invariant)
