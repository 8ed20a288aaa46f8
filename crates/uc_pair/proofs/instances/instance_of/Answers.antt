use Rattle.std.proofs.Common.{arith, ap, ◌∙◌}
use Rattle.uc_term.specs.Tree.{nodes, apply}
use Rattle.uc_term.specs.Flat.{tree_of}
use Rattle.uc_term.specs.Subst.{image}
use Rattle.uc_term.proofs.Terms.{whole_list}
use Rattle.uc_pair.proofs.instances.instance_of.Goals as goal

pub from_nodes-requires-clause-whole : goal.from_nodes-requires-clause-whole
from_nodes-requires-clause-whole c = (whole_list c.in_ok-instance.field-0.items (apply (image c.args.subst.now) (tree_of c.as_nodes-nodes.result.now)) c.in_ok-instance.ensures.nodes).0

pub from_nodes-requires-clause-small : goal.from_nodes-requires-clause-small
from_nodes-requires-clause-small c = omega (arith, c.is_too_large.ensures.small c.if-is_too_large.false, c.instance_size.ensures, (whole_list c.in_ok-instance.field-0.items (apply (image c.args.subst.now) (tree_of c.as_nodes-nodes.result.now)) c.in_ok-instance.ensures.nodes).2)

pub returns : goal.returns
returns c =
    let e = ap (apply (image c.args.subst.now)) c.as_nodes-nodes.ensures.tree in
    (c.from_nodes.ensures ∙ (whole_list c.in_ok-instance.field-0.items (apply (image c.args.subst.now) (tree_of c.as_nodes-nodes.result.now)) c.in_ok-instance.ensures.nodes).1 ∙ e, omega (arith, c.is_too_large.ensures.small c.if-is_too_large.false, c.instance_size.ensures, ap nodes e))
