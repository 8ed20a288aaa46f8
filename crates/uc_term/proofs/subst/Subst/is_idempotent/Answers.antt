use Rattle.std.proofs.Common.{arith, refl}
use Rattle.uc_term.specs.Subst.{Moves}
use Rattle.uc_term.specs.Bindings.{part_of}
use Rattle.uc_term.proofs.Bindings.{at, nothing, until_next, idempotent, not_idempotent}
use Rattle.uc_term.proofs.subst.Subst.is_idempotent.Goals as goal

pub loop-binding-init : goal.loop-binding-init
loop-binding-init c i n h e p = absurd (omega arith)

pub term_of-requires : goal.term_of-requires
term_of-requires c =
    rw (c.as_slice.ensures.value, c.deref-binding-items.ensures.value) (at c.self.inside.nodes.items c.self.inside.bindings.items c.self.invariant c.loop-binding.binding-index nothing (rw (← c.deref-binding-items.ensures.value) c.loop-binding-test.true))

pub returns-then-moves : goal.returns-then-moves
returns-then-moves c = (λ t. absurd cc, λ m. absurd (not_idempotent c.self.inside.nodes.items c.self.inside.bindings.items c.self.invariant c.args.self.now c.self.view_is c.loop-binding.binding-index (rw (← c.deref-binding-items.ensures.value) c.loop-binding-test.true) (rw (← c.deref-binding-items.ensures.value, ← c.as_slice.ensures.value, ← c.term_of.ensures) (c.if-moves.ensures.0 refl)) m))

pub loop-binding-preserved : goal.loop-binding-preserved
loop-binding-preserved c = until_next c.deref-binding-items.result.now c.loop-binding.binding-index nothing (λ b. Moves c.args.self.now (part_of c.self.inside.nodes.items b)) c.loop-binding.invariant (λ h. let t = c.if-moves.ensures.1 (rw (c.term_of.ensures, c.as_slice.ensures.value) h) in absurd cc)

pub returns : goal.returns
returns c = (λ t. idempotent c.self.inside.nodes.items c.deref-binding-items.result.now (rw c.deref-binding-items.ensures.value c.self.invariant) c.args.self.now (rw c.deref-binding-items.ensures.value c.self.view_is) c.loop-binding.binding-index c.loop-binding-test.false c.loop-binding.invariant, λ m. refl)
