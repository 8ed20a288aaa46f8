use Rattle.std.proofs.Common.{◌≡◌, Bool, true, false, IsTrue, refl}
use Rattle.uc_pair.proofs.Occurring.{none_more, seen_here, none_at_end}
use Rattle.uc_pair.proofs.reading.has_variable.Goals as goal

clashed : (b : Bool) → b ≡ false → IsTrue b → ⊥
clashed true e h = cc
clashed false e h = cc

pub returns-then-is_var : goal.returns-then-is_var
returns-then-is_var c = ((λ _. seen_here c.args.nodes.now c.loop-node.node-index c.args.x _ c.loop-node-test.true (c.is_var.ensures.0 c.if-is_var.true) c.requires), (λ _. refl))

pub loop-node-preserved : goal.loop-node-preserved
loop-node-preserved c = none_more c.args.nodes.now c.loop-node.node-index c.args.x _ c.loop-node-test.true (λ e. clashed c.is_var.result c.if-is_var.false (c.is_var.ensures.1 e)) c.loop-node.invariant

pub returns : goal.returns
returns c = ((λ h. absurd (clashed false refl h)), (λ o. absurd (none_at_end c.args.nodes.now c.loop-node.node-index c.args.x c.requires c.loop-node-test.false c.loop-node.invariant o)))
