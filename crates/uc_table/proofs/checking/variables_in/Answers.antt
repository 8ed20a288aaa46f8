use Rattle.std.proofs.Common.{◌≡◌, max, arith, ap, subst, ◌∙◌}
use Rattle.std.proofs.lemmas.List.{drop_all}
use Rattle.uc_table.specs.Against.{nodes_variables}
use Rattle.uc_table.specs.Checks.{variables_in}
use Rattle.uc_table.proofs.Assignments.{whole_variables}
use Rattle.uc_table.proofs.checking.variables_in.Goals as goal

pub returns : goal.returns
returns c =
    let all : nodes_variables c.as_nodes-node-items.result.now ≡ variables_in c.args.term.now = ap nodes_variables c.as_nodes-node-items.ensures.value ∙ whole_variables c.args.term.now in
    let none : max c.loop-node.count 0 ≡ nodes_variables c.as_nodes-node-items.result.now = subst (λ ns. max c.loop-node.count (nodes_variables ns) ≡ nodes_variables c.as_nodes-node-items.result.now) (drop_all c.loop-node.node-index c.as_nodes-node-items.result.now (omega arith)) c.loop-node.invariant in
    omega arith
