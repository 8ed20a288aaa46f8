use Rattle.std.proofs.Common.{◌++◌}
use Rattle.uc_ac.specs.Found.{binary_heads}
use Rattle.uc_ac.proofs.Heading.{heads_next, heads_end}
use Rattle.uc_ac.proofs.binary.add_heads.Goals as goal

pub loop-node-preserved : goal.loop-node-preserved
loop-node-preserved c = heads_next (c.args.numbers.now.items ++ binary_heads c.args.nodes.now) c.loop-node.numbers.items c.add_head.new.numbers.items c.args.nodes.now c.loop-node.node-index _ c.loop-node-test.true c.loop-node.invariant c.in_ok-add_head.ensures

pub returns : goal.returns
returns c = heads_end (c.args.numbers.now.items ++ binary_heads c.args.nodes.now) c.loop-node.numbers.items c.args.nodes.now c.loop-node.node-index c.loop-node-test.false c.loop-node.invariant
