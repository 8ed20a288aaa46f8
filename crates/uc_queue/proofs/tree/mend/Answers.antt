use Rattle.std.proofs.Common.{◌≡◌, ◌∙◌, sym, arith}
use Rattle.uc_queue.specs.Trees.{winner_at}
use Rattle.uc_queue.proofs.Climbs.{first_step, next_step, last_step, early_end, inner}
use Rattle.uc_queue.proofs.tree.mend.Goals as goal

pub loop-node-init : goal.loop-node-init
loop-node-init c = first_step c.args.key c.args.entries.now c.args.winners.now c.args.slot c.requires.right c.requires.slot

pub returns-then-winner-slot-clause-right : goal.returns-then-winner-slot-clause-right
returns-then-winner-slot-clause-right c =
    let here : winner_at c.loop-node.winners c.loop-node.node ≡ c.settle-winner.result = inner c.loop-node.winners c.loop-node.node c.loop-node.invariant.within ∙ sym c.if-winner-winners.true in
    early_end c.args.key c.args.entries.now c.args.winners.now c.loop-node.winners c.args.slot c.loop-node.node c.requires.right c.loop-node.invariant (omega arith)
    (here ∙ c.settle-winner.ensures.winner) (λ e. c.if-winner-slot.true (sym here ∙ e))

pub loop-node-preserved : goal.loop-node-preserved
loop-node-preserved c = next_step c.args.key c.args.entries.now c.args.winners.now c.loop-node.winners c.args.slot c.loop-node.node c.settle-winner.result c.loop-node.invariant (omega arith) c.settle-winner.ensures.winner

pub returns-clause-right : goal.returns-clause-right
returns-clause-right c = last_step c.args.key c.args.entries.now c.args.winners.now c.loop-node.winners c.args.slot c.loop-node.node c.loop-node.invariant c.loop-node-test.false
