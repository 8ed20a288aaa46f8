use Rattle.uc_term.specs.declared.node.Node.TheVariants.{Var}
use Rattle.std.proofs.Common.{◌≡◌, Bool, true, false, IsTrue, ◌∙◌, arith}
use Rattle.uc_unify.proofs.Crossing.{at_head, at_clash}
use Rattle.uc_unify.proofs.walking.go_on_at_apps.Goals as goal

clashed : (b : Bool) → b ≡ false → IsTrue b → ⊥
clashed true e h = cc
clashed false e h = cc

pub returns-then-is_head : goal.returns-then-is_head
returns-then-is_head c pairs g = (at_head c.args.s.now c.args.t.now c.requires.whole_s c.requires.whole_t c.args.p c.args.q pairs (Var 0) c.requires.within g c.args.f c.args.n c.requires.app (c.requires.other ∙ c.is_head.ensures.0 c.if-is_head.true), omega arith, omega (arith, c.requires.within))

pub returns-else-is_head : goal.returns-else-is_head
returns-else-is_head c pairs g = at_clash c.args.s.now c.args.t.now c.requires.whole_s c.requires.whole_t c.args.p c.args.q pairs (Var 0) c.requires.within g c.args.f c.args.n c.requires.app (λ x e. (let o = c.requires.other in absurd cc)) (λ e. clashed c.is_head.result c.if-is_head.false (c.is_head.ensures.1 (let o = c.requires.other in cc)))
