use Rattle.uc_term.specs.Flat.{tree_of}
use Rattle.uc_fact.proofs.Embedded.{variable_embedded}
use Rattle.uc_fact.proofs.Seen.{seen}
use Rattle.uc_fact.proofs.embedding.has_variable.Goals as goal

pub returns-then-is_var : goal.returns-then-is_var
returns-then-is_var c _ = variable_embedded c.args.x (tree_of c.args.nodes.now) (seen c.args.nodes.now c.loop-node.node-index c.args.x _ c.loop-node-test.true (c.is_var.ensures.0 c.if-is_var.true) c.requires)
