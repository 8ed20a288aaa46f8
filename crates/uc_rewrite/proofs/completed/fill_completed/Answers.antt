use Rattle.uc_term.proofs.Instances.{instance_list}
use Rattle.uc_rewrite.specs.Completed.{completed}
use Rattle.uc_rewrite.proofs.completed.fill_completed.Goals as goal

pub returns-clause-nodes : goal.returns-clause-nodes
returns-clause-nodes c = instance_list (completed c.args.least c.args.subst.now) c.args.pattern.now c.loop-node.list.items c.loop-node.node-index c.requires.whole c.loop-node-test.false c.loop-node.invariant.made
