use Rattle.uc_pair.proofs.Names.{Numbered}
use Rattle.uc_task.proofs.numbering.number.Given as goal

abbrev pub invariant-loop-node : goal.invariant-loop-node
invariant-loop-node l = Numbered l.nodes l.initial.names.items l.names.items 0 l.node-index l.list.items
