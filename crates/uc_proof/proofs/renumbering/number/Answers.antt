use Rattle.std.proofs.Common.{◌+◌, ◌++◌, arith, sym, ◌∙◌, subst}
use Rattle.uc_pair.proofs.Names.{Numbered, numbered_starts, numbered_goes_on, numbered_names, numbered_tree, numbered_whole, numbered_length}
use Rattle.uc_proof.proofs.Naming.{no_offset}
use Rattle.uc_proof.proofs.renumbering.number.Goals as goal

pub loop-node-init : goal.loop-node-init
loop-node-init c = numbered_starts c.as_nodes-nodes.result.now c.args.names.now.keys 0 c.new-list.result.items c.new-list.ensures.items

pub loop-node-preserved : goal.loop-node-preserved
loop-node-preserved c =
    subst (Numbered c.as_nodes-nodes.result.now c.args.names.now.keys c.number_node.new.names.keys 0 (c.loop-node.node-index + 1)) (sym c.in_ok-push.ensures.items)
    (numbered_goes_on c.as_nodes-nodes.result.now c.args.names.now.keys c.loop-node.names.keys c.number_node.new.names.keys 0 c.loop-node.node-index c.loop-node.list.items c.in_ok-number_node.field-0 _ c.loop-node-test.true c.loop-node.invariant c.in_ok-number_node.ensures)

pub from_nodes-requires-clause-whole : goal.from_nodes-requires-clause-whole
from_nodes-requires-clause-whole c = numbered_whole c.as_nodes-nodes.result.now c.args.term.now c.args.names.now.keys c.loop-node.names.keys 0 c.loop-node.node-index c.loop-node.list.items c.as_nodes-nodes.ensures.whole c.as_nodes-nodes.ensures.tree c.loop-node-test.false c.loop-node.invariant

pub from_nodes-requires-clause-small : goal.from_nodes-requires-clause-small
from_nodes-requires-clause-small c = omega (arith, c.as_nodes-nodes.ensures.short, numbered_length c.as_nodes-nodes.result.now c.args.term.now c.args.names.now.keys c.loop-node.names.keys 0 c.loop-node.node-index c.loop-node.list.items c.as_nodes-nodes.ensures.whole c.as_nodes-nodes.ensures.tree c.loop-node-test.false c.loop-node.invariant)

pub returns-clause-names : goal.returns-clause-names
returns-clause-names c = numbered_names c.as_nodes-nodes.result.now c.args.term.now c.args.names.now.keys c.loop-node.names.keys 0 c.loop-node.node-index c.loop-node.list.items c.as_nodes-nodes.ensures.whole c.as_nodes-nodes.ensures.tree c.loop-node-test.false c.loop-node.invariant

pub returns-clause-numbered : goal.returns-clause-numbered
returns-clause-numbered c = λ rest.
    c.from_nodes.ensures
    ∙ numbered_tree c.as_nodes-nodes.result.now c.args.term.now c.args.names.now.keys c.loop-node.names.keys 0 c.loop-node.node-index c.loop-node.list.items c.as_nodes-nodes.ensures.whole c.as_nodes-nodes.ensures.tree c.loop-node-test.false c.loop-node.invariant rest
    ∙ no_offset (c.loop-node.names.keys ++ rest) c.args.term.now
