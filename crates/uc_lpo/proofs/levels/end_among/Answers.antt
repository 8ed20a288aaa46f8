use Rattle.std.proofs.Common.{ap, arith, drop}
use Rattle.uc_term.specs.Tree.{nodes}
use Rattle.uc_term.specs.Flat.{tree_of}
use Rattle.uc_term.proofs.Terms.{nodes_whole}
use Rattle.uc_lpo.proofs.levels.end_among.Goals as goal

pub returns-then-from-eq0-clause-end : goal.returns-then-from-eq0-clause-end
returns-then-from-eq0-clause-end c = omega (arith, c.if-from-eq0.true, ap (λ k. nodes (tree_of (drop k c.args.list.now))) c.if-from-eq0.true, nodes_whole c.args.list.now (c.requires.single c.if-is_single.true))
