use Rattle.std.proofs.Common.{arith}
use Rattle.uc_final.proofs.Selected.{axioms_next}
use Rattle.uc_final.proofs.selecting.axiom_origins.Goals as goal

pub loop-k-preserved : goal.loop-k-preserved
loop-k-preserved c = axioms_next c.args.axioms.now c.loop-k.k c.loop-k.list.items c.push.new.self.items (omega arith) c.in_ok-push.ensures.items c.loop-k.invariant
