use Rattle.std.proofs.Common.{subst, List}
use Rattle.uc_term.specs.declared.node.Node.{Node}
use Rattle.uc_term.proofs.Terms.{take_of_length-le}
use Rattle.uc_order.specs.Members.{Each}
use Rattle.tests_rewriting.specs.Known.{IsKnown}
use Rattle.tests_rewriting.proofs.Known.{has_only}
use Rattle.tests_rewriting.proofs.cases.has_only.Goals as goal

pub returns : goal.returns
returns c = λ _.
    let ns = c.as_nodes-nodes.result.now in
    let P : List Node → Type 0 = Each (IsKnown c.args.cases.now) in
    has_only c.args.cases.now c.args.t.now ns c.as_nodes-nodes.ensures.value (subst P (take_of_length-le ns c.loop-n.n-index c.loop-n-test.false) c.loop-n.invariant)
