use Rattle.std.proofs.Common.{◌≡◌, Bool, true, false, IsTrue, refl, subst}
use Rattle.uc_term.specs.Variables.{Occurs}
use Rattle.uc_pair.proofs.Occurring.{all_more, all_at_end, seen_here}
use Rattle.uc_pair.proofs.reading.has_variables_of.Goals as goal

clashed : (b : Bool) → b ≡ false → IsTrue b → ⊥
clashed true e h = cc
clashed false e h = cc

both : (b : Bool) → b ≡ true → b ≡ false → ⊥
both true e h = cc
both false e h = cc

pub loop-node-preserved : goal.loop-node-preserved
loop-node-preserved c = all_more c.as_nodes-nodes.result.now c.loop-node.node-index _ c.args.other.now c.loop-node-test.true (c.is_further.ensures.0 c.if-is_further.false) c.loop-node.invariant

pub returns : goal.returns
returns c = ((λ _. all_at_end c.as_nodes-nodes.result.now c.loop-node.node-index c.args.term.now c.args.other.now c.as_nodes-nodes.ensures.whole c.as_nodes-nodes.ensures.tree c.loop-node-test.false c.loop-node.invariant), (λ _. refl))

pub returns-then-is_further : goal.returns-then-is_further
returns-then-is_further c =
    let nodes = c.as_nodes-nodes.result.now in
    ((λ h. absurd (clashed false refl h)), (λ all. absurd (both c.is_further.result c.if-is_further.true (c.is_further.ensures.1 (λ x e. all x (subst (Occurs x) c.as_nodes-nodes.ensures.tree (seen_here nodes c.loop-node.node-index x _ c.loop-node-test.true e c.as_nodes-nodes.ensures.whole)))))))
