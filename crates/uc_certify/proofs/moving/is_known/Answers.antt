use Rattle.std.proofs.Common.{subst, sym}
use Rattle.uc_order.specs.Members.{Each}
use Rattle.uc_certify.specs.Knowing.{IsKnownNode}
use Rattle.uc_certify.proofs.Known.{over_of, nodes_of}
use Rattle.uc_certify.proofs.Lists.{of, not_of, never, always, each_more, each_end, each_get}
use Rattle.uc_certify.proofs.moving.is_known.Goals as goal

pub loop-node-preserved : goal.loop-node-preserved
loop-node-preserved g c = each_more (IsKnownNode (g.C.Comparison.meaning c.args.comparison.now).symbols (g.C.Comparison.knows c.args.comparison.now)) c.as_nodes-nodes.result.now c.loop-node.node-index _ c.loop-node-test.true (of c.is_known_node.result c.if-not-is_known_node.false c.is_known_node.ensures) c.loop-node.invariant

pub returns-then-not-is_known_node : goal.returns-then-not-is_known_node
returns-then-not-is_known_node g c =
    let m = g.C.Comparison.meaning c.args.comparison.now in
    let knows = g.C.Comparison.knows c.args.comparison.now in
    never (λ over. not_of c.is_known_node.result c.if-not-is_known_node.true c.is_known_node.ensures (each_get (IsKnownNode m.symbols knows) c.as_nodes-nodes.result.now c.loop-node.node-index _ (subst (Each (IsKnownNode m.symbols knows)) (sym c.as_nodes-nodes.ensures.value) (nodes_of m knows c.args.term.now over)) c.loop-node-test.true))

pub returns : goal.returns
returns g c =
    let m = g.C.Comparison.meaning c.args.comparison.now in
    let knows = g.C.Comparison.knows c.args.comparison.now in
    always (over_of m knows c.args.term.now c.requires.arities (subst (Each (IsKnownNode m.symbols knows)) c.as_nodes-nodes.ensures.value (each_end (IsKnownNode m.symbols knows) c.as_nodes-nodes.result.now c.loop-node.node-index c.loop-node-test.false c.loop-node.invariant)))
