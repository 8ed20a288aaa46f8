-- Terms as their nodes.
use Rattle.std.proofs.Common.{◌≤◌, List, length, arith}
use Rattle.uc_term.specs.declared.node.Node.{Node}
use Rattle.uc_term.specs.Tree.{nodes}
use Rattle.uc_term.specs.Flat.{tree_of, IsWhole}
use Rattle.uc_term.proofs.Terms.{nodes_whole}

pub small_tree : (ns : List Node) → IsWhole ns → length ns ≤ 4096 → nodes (tree_of ns) ≤ 4096
small_tree ns w h = omega (arith, nodes_whole ns w, h)
