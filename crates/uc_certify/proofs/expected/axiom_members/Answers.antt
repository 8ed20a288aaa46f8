use Rattle.std.proofs.Common.{arith}
use Rattle.uc_certify.proofs.Gathered.{axioms_next, axioms_end}
use Rattle.uc_certify.proofs.expected.axiom_members.Goals as goal

pub loop-k-preserved : goal.loop-k-preserved
loop-k-preserved c = axioms_next c.args.axioms.now c.loop-k.k c.loop-k.members.items c.push.new.self.items (omega arith) c.in_ok-push.ensures.items c.loop-k.invariant

pub returns : goal.returns
returns c = axioms_end c.args.axioms.now c.loop-k.k c.loop-k.members.items (omega arith) c.loop-k.invariant
