use Rattle.std.proofs.Common.{◌∙◌}
use Rattle.uc_term.proofs.Bindings.{at, is_term, past, past_all, nothing}
use Rattle.uc_term.proofs.subst.Subst.get.Goals as goal

pub term_of-requires : goal.term_of-requires
term_of-requires c =
    rw (c.as_slice.ensures.value, c.deref-binding-items.ensures.value) (at c.self.inside.nodes.items c.self.inside.bindings.items c.self.invariant c.loop-binding.binding-index nothing (rw (← c.deref-binding-items.ensures.value) c.loop-binding-test.true))

pub returns-then-binding-x : goal.returns-then-binding-x
returns-then-binding-x c =
    rw (c.term_of.ensures, c.as_slice.ensures.value, c.deref-binding-items.ensures.value) (is_term c.self.inside.nodes.items c.self.inside.bindings.items c.self.invariant c.args.self.now c.loop-binding.binding-index c.args.x (rw (← c.deref-binding-items.ensures.value) c.loop-binding-test.true) c.self.view_is (rw (← c.deref-binding-items.ensures.value) c.if-binding-x.true) (rw (← c.deref-binding-items.ensures.value) c.loop-binding.invariant))

pub loop-binding-preserved : goal.loop-binding-preserved
loop-binding-preserved c = c.loop-binding.invariant ∙ past c.self.inside.nodes.items c.deref-binding-items.result.now c.loop-binding.binding-index nothing c.args.x c.loop-binding-test.true c.if-binding-x.false

pub returns : goal.returns
returns c = c.loop-binding.invariant ∙ past_all c.self.inside.nodes.items c.deref-binding-items.result.now c.loop-binding.binding-index c.args.x c.loop-binding-test.false
