use Rattle.std.proofs.Common.{arith, refl}
use Rattle.std.proofs.lemmas.Option.{slice_get-get_or, slice_get_within}
use Rattle.uc_term.specs.declared.node.Node.TheVariants.{Var}
use Rattle.uc_term.specs.Subst.{HasPair}
use Rattle.uc_term.proofs.Bindings.{until_next}
use Rattle.uc_term.proofs.subst.Subst.moves.Goals as goal

pub loop-node-init : goal.loop-node-init
loop-node-init c i n h e p = absurd (omega arith)

pub returns-then-has : goal.returns-then-has
returns-then-has c = (λ t. (c.loop-node.node-index, _, slice_get-get_or c.args.nodes.now c.loop-node.node-index (Var 0) c.loop-node-test.true, c.if-has.ensures.0 refl), λ m. refl)

pub loop-node-preserved : goal.loop-node-preserved
loop-node-preserved c = until_next c.args.nodes.now c.loop-node.node-index (Var 0) (HasPair c.args.self.now) c.loop-node.invariant (λ h. let t = c.if-has.ensures.1 h in absurd cc)

pub returns : goal.returns
returns c = (λ t. absurd cc, λ m. absurd (c.loop-node.invariant m.0 m.1 (let inside = slice_get_within c.args.nodes.now m.0 m.1 m.2 in let over = c.loop-node-test.false in omega arith) m.2 m.3))
