use Rattle.uc_unify.proofs.Walk.{Going}
use Rattle.std.proofs.Common.{drop}
use Rattle.uc_term.specs.Flat.{tree_of, trees_of}
use Rattle.uc_unify.proofs.matching.extend.Given as goal

abbrev pub invariant-loop-node : goal.invariant-loop-node
invariant-loop-node l = Going (tree_of l.pattern) (tree_of l.term) l.initial.subst (trees_of (drop l.node-index l.pattern)) (trees_of (drop l.place l.term)) l.subst
