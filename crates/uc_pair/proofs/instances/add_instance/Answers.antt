use Rattle.uc_term.specs.Subst.{image}
use Rattle.uc_term.proofs.Instances.{node_image}
use Rattle.uc_pair.proofs.Added.{added_none, images_go_on, images_too_many, images_end}
use Rattle.uc_pair.proofs.instances.add_instance.Goals as goal

pub loop-node-init : goal.loop-node-init
loop-node-init c = added_none c.args.list.now.items c.requires

pub add_image-requires : goal.add_image-requires
add_image-requires c = c.loop-node.invariant.1

pub returns-then-not-branch : goal.returns-then-not-branch
returns-then-not-branch c = images_too_many (node_image (image c.args.subst.now)) c.args.pattern.now c.loop-node.node-index _ c.loop-node-test.true c.args.list.now.items c.loop-node.list.items c.add_image.new.list.items c.in_ok-add_image.field-0 c.if-not-branch.true c.loop-node.invariant c.in_ok-add_image.ensures

pub loop-node-preserved : goal.loop-node-preserved
loop-node-preserved c = images_go_on (node_image (image c.args.subst.now)) c.args.pattern.now c.loop-node.node-index _ c.loop-node-test.true c.args.list.now.items c.loop-node.list.items c.add_image.new.list.items c.in_ok-add_image.field-0 c.if-not-branch.false c.loop-node.invariant c.in_ok-add_image.ensures

pub returns : goal.returns
returns c = images_end (node_image (image c.args.subst.now)) c.args.pattern.now c.loop-node.node-index c.args.list.now.items c.loop-node.list.items c.loop-node-test.false c.loop-node.invariant
