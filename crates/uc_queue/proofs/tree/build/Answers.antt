use Rattle.std.proofs.Common.{◌≡◌, ◌+◌, ◌-◌, arith, subst, sym}
use Rattle.uc_queue.proofs.Climbs.{IsBuilt, built_more}
use Rattle.uc_queue.proofs.tree.build.Goals as goal

pub loop-node-preserved : goal.loop-node-preserved
loop-node-preserved c =
    let e : c.loop-node.node - 1 + 1 ≡ c.loop-node.node = omega arith in
    built_more c.args.key c.args.entries.now c.args.winners.now c.loop-node.winners (c.loop-node.node - 1) c.settle.result
    (subst (λ n. IsBuilt c.args.key c.args.entries.now c.args.winners.now c.loop-node.winners n) (sym e) c.loop-node.invariant)
    (omega arith) c.settle.ensures.winner
