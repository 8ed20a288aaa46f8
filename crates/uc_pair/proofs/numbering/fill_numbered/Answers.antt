use Rattle.std.proofs.Common.{◌+◌, arith, sym, ◌∙◌, subst}
use Rattle.uc_pair.proofs.Names.{Numbered, numbered_starts, numbered_goes_on, numbered_names, numbered_tree, numbered_whole, numbered_length}
use Rattle.uc_pair.proofs.numbering.fill_numbered.Goals as goal

pub loop-node-init : goal.loop-node-init
loop-node-init c = numbered_starts c.as_nodes-nodes.result.now c.args.names.now.items c.args.offset c.reserve.new.self.items (c.reserve.ensures.items ∙ c.clear.ensures.items)

pub loop-node-preserved : goal.loop-node-preserved
loop-node-preserved c =
    subst (Numbered c.as_nodes-nodes.result.now c.args.names.now.items c.number_node.new.names.items c.args.offset (c.loop-node.node-index + 1)) (sym c.in_ok-push.ensures.items)
    (numbered_goes_on c.as_nodes-nodes.result.now c.args.names.now.items c.loop-node.names.items c.number_node.new.names.items c.args.offset c.loop-node.node-index c.loop-node.list.items c.in_ok-number_node.field-0 _ c.loop-node-test.true c.loop-node.invariant c.in_ok-number_node.ensures)

pub returns-clause-whole : goal.returns-clause-whole
returns-clause-whole c = numbered_whole c.as_nodes-nodes.result.now c.args.term.now c.args.names.now.items c.loop-node.names.items c.args.offset c.loop-node.node-index c.loop-node.list.items c.as_nodes-nodes.ensures.whole c.as_nodes-nodes.ensures.tree c.loop-node-test.false c.loop-node.invariant

pub returns-clause-small : goal.returns-clause-small
returns-clause-small c = omega (arith, c.as_nodes-nodes.ensures.short, numbered_length c.as_nodes-nodes.result.now c.args.term.now c.args.names.now.items c.loop-node.names.items c.args.offset c.loop-node.node-index c.loop-node.list.items c.as_nodes-nodes.ensures.whole c.as_nodes-nodes.ensures.tree c.loop-node-test.false c.loop-node.invariant)

pub returns-clause-names : goal.returns-clause-names
returns-clause-names c = numbered_names c.as_nodes-nodes.result.now c.args.term.now c.args.names.now.items c.loop-node.names.items c.args.offset c.loop-node.node-index c.loop-node.list.items c.as_nodes-nodes.ensures.whole c.as_nodes-nodes.ensures.tree c.loop-node-test.false c.loop-node.invariant

pub returns-clause-length : goal.returns-clause-length
returns-clause-length c = omega (arith, c.loop-node.invariant.short, c.loop-node.auto.node-index-end, c.as_nodes-nodes.ensures.short)

pub returns-clause-numbered : goal.returns-clause-numbered
returns-clause-numbered c = λ rest. numbered_tree c.as_nodes-nodes.result.now c.args.term.now c.args.names.now.items c.loop-node.names.items c.args.offset c.loop-node.node-index c.loop-node.list.items c.as_nodes-nodes.ensures.whole c.as_nodes-nodes.ensures.tree c.loop-node-test.false c.loop-node.invariant rest
