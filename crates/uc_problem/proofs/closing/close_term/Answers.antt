use Rattle.std.proofs.Common.{◌∙◌}
use Rattle.uc_problem.proofs.ClosedTerms.{closed_list}
use Rattle.uc_problem.proofs.closing.close_term.Goals as goal

pub from_nodes-requires-clause-whole : goal.from_nodes-requires-clause-whole
from_nodes-requires-clause-whole c = (closed_list c.args.constants.now c.args.term.now c.as_nodes-node-items.result.now c.loop-node.nodes.items c.loop-node.node-index c.as_nodes-node-items.ensures.value c.loop-node-test.false c.loop-node.invariant).0

pub returns : goal.returns
returns c = c.from_nodes.ensures ∙ (closed_list c.args.constants.now c.args.term.now c.as_nodes-node-items.result.now c.loop-node.nodes.items c.loop-node.node-index c.as_nodes-node-items.ensures.value c.loop-node-test.false c.loop-node.invariant).1
