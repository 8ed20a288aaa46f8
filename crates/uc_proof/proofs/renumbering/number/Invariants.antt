use Rattle.uc_pair.proofs.Names.{Numbered}
use Rattle.uc_proof.proofs.renumbering.number.Given as goal

abbrev pub invariant-loop-node : goal.invariant-loop-node
invariant-loop-node l = Numbered l.nodes l.initial.names.keys l.names.keys 0 l.node-index l.list.items
