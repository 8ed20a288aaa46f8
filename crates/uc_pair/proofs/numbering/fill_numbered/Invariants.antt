use Rattle.uc_pair.proofs.Names.{Numbered}
use Rattle.uc_pair.proofs.numbering.fill_numbered.Given as goal

abbrev pub invariant-loop-node : goal.invariant-loop-node
invariant-loop-node l = Numbered l.nodes l.initial.names.items l.names.items l.offset l.node-index l.list.items
