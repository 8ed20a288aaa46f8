use Rattle.std.proofs.Common.{◌≡◌, Bool, true, false, IsTrue, refl}
use Rattle.uc_term.proofs.Terms.{whole_one}
use Rattle.uc_fact.proofs.Fitting.{at_start, at_head, at_clash, at_var, within_var, fit_at_end}
use Rattle.uc_fact.proofs.instance.fits.Goals as goal
use Rattle.uc_fact.proofs.instance.fits.Goals.{in-Var, in-App+else-not-is_head}

clashed : (b : Bool) → b ≡ false → IsTrue b → ⊥
clashed true e h = cc
clashed false e h = cc

headed : {A : Type 0} (b : Bool) → b ≡ true → (IsTrue b → A) → A
headed true e h = h refl
headed false e h = absurd cc

pub loop-node-init : goal.loop-node-init
loop-node-init c = at_start c.args.pattern.now c.args.term.now c.requires.whole_pattern c.requires.whole_term

pub end_of-place-requires-clause-whole : goal.end_of-place-requires-clause-whole
end_of-place-requires-clause-whole c = whole_one c.args.term.now c.requires.whole_term

pub end_of-place-requires-clause-within : goal.end_of-place-requires-clause-within
end_of-place-requires-clause-within c = within_var c.args.pattern.now c.args.term.now c.requires.whole_pattern c.requires.whole_term c.loop-node.node-index c.loop-node.place _ c.loop-node-test.true c.loop-node.invariant c.in-Var.field-0 c.in-Var.is

pub returns-then-not-is_head-clause-no : goal.returns-then-not-is_head-clause-no
returns-then-not-is_head-clause-no c = λ _. at_clash c.args.pattern.now c.args.term.now c.requires.whole_pattern c.requires.whole_term c.loop-node.node-index c.loop-node.place _ c.loop-node-test.true c.in-App.f c.in-App.n c.in-App.is (λ e. clashed c.is_head.result c.if-not-is_head.true (c.is_head.ensures.1 e)) c.loop-node.invariant

pub loop-node-preserved : goal.loop-node-preserved
loop-node-preserved c =
    elim c.match-node.branch [
      | in-Var w ↦ rw w.place-is (at_var c.args.pattern.now c.args.term.now c.requires.whole_pattern c.requires.whole_term c.loop-node.node-index c.loop-node.place _ c.loop-node-test.true w.in-Var.field-0 w.end_of-place.result w.in-Var.is w.end_of-place.ensures.end c.loop-node.invariant)
      | in-App+else-not-is_head w ↦ rw w.place-is (at_head c.args.pattern.now c.args.term.now c.requires.whole_pattern c.requires.whole_term c.loop-node.node-index c.loop-node.place _ c.loop-node-test.true w.in-App.f w.in-App.n w.in-App.is (headed w.is_head.result w.if-not-is_head.false w.is_head.ensures.0) c.loop-node.invariant)
    ]

pub returns-clause-yes : goal.returns-clause-yes
returns-clause-yes c = λ _. fit_at_end c.args.pattern.now c.args.term.now c.requires.whole_pattern c.requires.whole_term c.loop-node.node-index c.loop-node.place c.loop-node-test.false c.loop-node.invariant
