use Rattle.std.proofs.Common.{arith, ap}
use Rattle.uc_term.specs.Tree.{nodes}
use Rattle.uc_term.proofs.Terms.{nodes_whole}
use Rattle.uc_pair.proofs.fitting.next_fit.Goals as goal

pub fit_at-requires-clause-within : goal.fit_at-requires-clause-within
fit_at-requires-clause-within c = omega (arith, c.loop-place-test.true, c.nodes-place-end.ensures.value, nodes_whole c.as_nodes.result.now c.as_nodes.ensures.whole, ap nodes c.as_nodes.ensures.tree)
