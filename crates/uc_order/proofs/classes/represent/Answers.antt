use Rattle.std.proofs.Common.{arith, ◌∙◌}
use Rattle.uc_order.specs.VarOrders.{representative}
use Rattle.uc_order.proofs.Renaming.{made}
use Rattle.uc_order.proofs.classes.represent.Goals as goal

pub from_nodes-requires-clause-whole : goal.from_nodes-requires-clause-whole
from_nodes-requires-clause-whole c = (made (representative c.args.cases.now) c.args.term.now c.as_nodes-n-items.result.now c.loop-n.list.items c.loop-n.n-index c.as_nodes-n-items.ensures.value c.loop-n-test.false c.loop-n.invariant).whole

pub from_nodes-requires-clause-small : goal.from_nodes-requires-clause-small
from_nodes-requires-clause-small c =
    let m = made (representative c.args.cases.now) c.args.term.now c.as_nodes-n-items.result.now c.loop-n.list.items c.loop-n.n-index c.as_nodes-n-items.ensures.value c.loop-n-test.false c.loop-n.invariant in
    omega (arith, m.small, c.as_nodes-n-items.ensures.small)

pub returns : goal.returns
returns c = c.from_nodes.ensures ∙ (made (representative c.args.cases.now) c.args.term.now c.as_nodes-n-items.result.now c.loop-n.list.items c.loop-n.n-index c.as_nodes-n-items.ensures.value c.loop-n-test.false c.loop-n.invariant).tree
