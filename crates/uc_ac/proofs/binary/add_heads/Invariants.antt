use Rattle.std.proofs.Common.{◌≡◌, ◌++◌, drop}
use Rattle.uc_ac.specs.Found.{binary_heads}
use Rattle.uc_ac.proofs.binary.add_heads.Given as goal

abbrev pub invariant-loop-node : goal.invariant-loop-node
invariant-loop-node l = l.fn.numbers.items ++ binary_heads l.nodes ≡ l.numbers.items ++ binary_heads (drop l.node-index l.nodes)
