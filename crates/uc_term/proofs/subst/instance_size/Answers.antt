use Rattle.uc_term.specs.Subst.{image}
use Rattle.uc_term.proofs.Instances.{instance_nodes}
use Rattle.uc_term.proofs.subst.instance_size.Goals as goal

pub returns : goal.returns
returns c = instance_nodes (image c.args.subst.now) c.args.pattern.now c.loop-n.n-index c.loop-n.size c.requires.whole c.loop-n-test.false c.loop-n.invariant.sum
