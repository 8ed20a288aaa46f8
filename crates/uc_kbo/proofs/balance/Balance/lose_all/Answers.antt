use Rattle.std.proofs.Common.{refl}
use Rattle.uc_term.specs.declared.node.Node.TheVariants.{Var}
use Rattle.uc_kbo.proofs.Balancing.{lost_init, lost_room, lost_more, lost_counts}
use Rattle.uc_kbo.proofs.balance.Balance.lose_all.Goals as goal

pub loop-n-init : goal.loop-n-init
loop-n-init c = lost_init c.args.self.now c.args.nodes.now c.requires.tallied

pub lose-requires-clause-tallied : goal.lose-requires-clause-tallied
lose-requires-clause-tallied c = c.loop-n.invariant.tallied

pub lose-requires-clause-room : goal.lose-requires-clause-room
lose-requires-clause-room c = lost_room c.args.self.now c.args.nodes.now c.loop-n.n-index c.loop-n.self c.loop-n-test.true c.loop-n.invariant c.requires.room

pub loop-n-preserved : goal.loop-n-preserved
loop-n-preserved c = lost_more c.args.self.now c.args.nodes.now c.loop-n.n-index c.loop-n.self c.loop-n-test.true c.lose.new.self (Var 0) _ refl c.lose.ensures.tallied c.lose.ensures.base c.lose.ensures.counts c.loop-n.invariant

pub returns-clause-tallied : goal.returns-clause-tallied
returns-clause-tallied c = c.loop-n.invariant.tallied

pub returns-clause-counts : goal.returns-clause-counts
returns-clause-counts c = lost_counts c.args.self.now c.args.nodes.now c.loop-n.n-index c.loop-n.self c.loop-n-test.false c.loop-n.invariant
