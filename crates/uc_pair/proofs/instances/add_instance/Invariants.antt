use Rattle.std.proofs.Common.{take, true}
use Rattle.std.specs.List.{flat_map}
use Rattle.uc_term.specs.Subst.{image}
use Rattle.uc_term.proofs.Instances.{node_image}
use Rattle.uc_pair.specs.Judging.{AreAdded}
use Rattle.uc_pair.proofs.instances.add_instance.Given as goal

abbrev pub invariant-loop-node : goal.invariant-loop-node
invariant-loop-node l = AreAdded (flat_map (node_image (image l.subst)) (take l.node-index l.pattern)) l.initial.list.items l.list.items true
