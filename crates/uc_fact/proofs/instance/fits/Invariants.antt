use Rattle.std.proofs.Common.{drop}
use Rattle.uc_term.specs.Flat.{tree_of, trees_of}
use Rattle.uc_fact.proofs.Fitting.{Standing}
use Rattle.uc_fact.proofs.instance.fits.Given as goal

abbrev pub invariant-loop-node : goal.invariant-loop-node
invariant-loop-node l = Standing (tree_of l.pattern) (tree_of l.term) (trees_of (drop l.node-index l.pattern)) (trees_of (drop l.place l.term))
