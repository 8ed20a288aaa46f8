use Rattle.std.proofs.Common.{refl}
use Rattle.uc_term.specs.declared.node.Node.TheVariants.{Var}
use Rattle.uc_kbo.proofs.Balancing.{gained_init, gained_room, gained_more, gained_counts}
use Rattle.uc_kbo.proofs.balance.Balance.gain_all.Goals as goal

pub loop-n-init : goal.loop-n-init
loop-n-init c = gained_init c.args.self.now c.args.nodes.now c.requires.tallied

pub gain-requires-clause-tallied : goal.gain-requires-clause-tallied
gain-requires-clause-tallied c = c.loop-n.invariant.tallied

pub gain-requires-clause-room : goal.gain-requires-clause-room
gain-requires-clause-room c = gained_room c.args.self.now c.args.nodes.now c.loop-n.n-index c.loop-n.self c.loop-n-test.true c.loop-n.invariant c.requires.room

pub loop-n-preserved : goal.loop-n-preserved
loop-n-preserved c = gained_more c.args.self.now c.args.nodes.now c.loop-n.n-index c.loop-n.self c.loop-n-test.true c.gain.new.self (Var 0) _ refl c.gain.ensures.tallied c.gain.ensures.base c.gain.ensures.counts c.loop-n.invariant

pub returns-clause-tallied : goal.returns-clause-tallied
returns-clause-tallied c = c.loop-n.invariant.tallied

pub returns-clause-counts : goal.returns-clause-counts
returns-clause-counts c = gained_counts c.args.self.now c.args.nodes.now c.loop-n.n-index c.loop-n.self c.loop-n-test.false c.loop-n.invariant
