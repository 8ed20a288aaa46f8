use Rattle.std.proofs.Common.{arith}
use Rattle.uc_term.proofs.Terms.{whole_flat_list}
use Rattle.uc_clause.proofs.Printing.{of_node, ahead_start, ahead_more, ahead_end, numbered_more, numbered_end}
use Rattle.uc_clause.proofs.printer.write_term.Goals as goal

pub loop-node-init : goal.loop-node-init
loop-node-init c = record {
  ahead = ahead_start c.args.symbols.now c.args.term.now c.as_nodes-nodes.result.now c.new-pending.result.items c.args.out.now c.as_nodes-nodes.ensures.value c.new-pending.ensures.items c.requires;
  numbered = tt;
}

pub write_node-requires : goal.write_node-requires
write_node-requires c = (of_node c.args.symbols.now c.as_nodes-nodes.result.now c.loop-node.node-index _ c.loop-node-test.true (whole_flat_list c.as_nodes-nodes.result.now c.args.term.now c.as_nodes-nodes.ensures.value) c.loop-node.invariant.ahead.over).0

pub loop-node-preserved : goal.loop-node-preserved
loop-node-preserved c = record {
  ahead = ahead_more c.args.symbols.now c.as_nodes-nodes.result.now c.loop-node.node-index _ c.arguments_of.result _ _ c.loop-node.out _ _ _ c.loop-node-test.true (whole_flat_list c.as_nodes-nodes.result.now c.args.term.now c.as_nodes-nodes.ensures.value) c.arguments_of.ensures c.in_ok-write_node.ensures.text c.in_ok-write_marks.ensures.text c.in_ok-write_marks.ensures.pending c.loop-node.invariant.ahead;
  numbered = numbered_more c.as_nodes-nodes.result.now c.loop-node.node-index _ c.loop-node-test.true c.loop-node.invariant.numbered c.in_ok-write_node.ensures.numbered;
}

pub returns-clause-text : goal.returns-clause-text
returns-clause-text c = ahead_end c.args.symbols.now c.as_nodes-nodes.result.now c.loop-node.node-index _ c.loop-node.out _ (omega arith) c.loop-node.invariant.ahead

pub returns-clause-numbered : goal.returns-clause-numbered
returns-clause-numbered c = numbered_end c.as_nodes-nodes.result.now c.args.term.now c.loop-node.node-index c.as_nodes-nodes.ensures.value (omega arith) c.loop-node.invariant.numbered
