use Rattle.uc_term.specs.Subst.{image}
use Rattle.uc_term.proofs.Instances.{instance_list}
use Rattle.uc_term.proofs.subst.instance.Goals as goal

pub returns-clause-nodes : goal.returns-clause-nodes
returns-clause-nodes c = instance_list (image c.args.subst.now) c.args.pattern.now c.loop-n.all.items c.loop-n.n-index c.requires.whole c.loop-n-test.false c.loop-n.invariant.made
