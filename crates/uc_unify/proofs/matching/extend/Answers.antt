use Rattle.std.proofs.Common.{◌≡◌, Bool, true, false, IsTrue, refl}
use Rattle.uc_term.proofs.Terms.{whole_one}
use Rattle.uc_term.proofs.Parts.{split}
use Rattle.uc_unify.proofs.Walk.{at_start, at_end, at_head, at_clash, at_bound, at_other, within_var}
use Rattle.uc_unify.proofs.matching.extend.Goals as goal
use Rattle.uc_unify.proofs.matching.extend.Goals.{in-Var+in_ok-bind-in-Var+else-not-branch, in-App+else-not-is_head}

clashed : (b : Bool) → b ≡ false → IsTrue b → ⊥
clashed true e h = cc
clashed false e h = cc

headed : {A : Type 0} (b : Bool) → b ≡ true → (IsTrue b → A) → A
headed true e h = h refl
headed false e h = absurd cc

pub loop-node-init : goal.loop-node-init
loop-node-init c = at_start c.args.pattern.now c.args.term.now c.args.subst.now c.requires.whole_pattern c.requires.whole_term

pub end_of-end-requires-clause-whole : goal.end_of-end-requires-clause-whole
end_of-end-requires-clause-whole c = whole_one c.args.term.now c.requires.whole_term

pub end_of-end-requires-clause-within : goal.end_of-end-requires-clause-within
end_of-end-requires-clause-within c = within_var c.args.pattern.now c.args.term.now c.args.subst.now c.requires.whole_pattern c.requires.whole_term c.loop-node.node-index c.loop-node.place c.loop-node.subst _ c.loop-node-test.true c.loop-node.invariant c.in-Var.x c.in-Var.is

pub bind-requires-clause-whole : goal.bind-requires-clause-whole
bind-requires-clause-whole c = (split c.args.term.now c.loop-node.place c.end_of-end.result (whole_one c.args.term.now c.requires.whole_term) (within_var c.args.pattern.now c.args.term.now c.args.subst.now c.requires.whole_pattern c.requires.whole_term c.loop-node.node-index c.loop-node.place c.loop-node.subst _ c.loop-node-test.true c.loop-node.invariant c.in-Var.x c.in-Var.is) c.end_of-end.ensures.end).whole

pub returns-then-not-branch : goal.returns-then-not-branch
returns-then-not-branch c = at_other c.args.pattern.now c.args.term.now c.args.subst.now c.requires.whole_pattern c.requires.whole_term c.loop-node.node-index c.loop-node.place c.loop-node.subst _ c.loop-node-test.true c.loop-node.invariant c.in-Var.x c.in-Var.is c.end_of-end.result c.end_of-end.ensures.end c.bind.new.subst (rw c.if-not-branch.true at c.in_ok-bind-in-Var.ensures)

pub returns-then-not-is_head : goal.returns-then-not-is_head
returns-then-not-is_head c = at_clash c.args.pattern.now c.args.term.now c.args.subst.now c.requires.whole_pattern c.requires.whole_term c.loop-node.node-index c.loop-node.place c.loop-node.subst _ c.loop-node-test.true c.loop-node.invariant c.in-App.f c.in-App.n c.in-App.is (λ e. clashed c.is_head.result c.if-not-is_head.true (c.is_head.ensures.1 e))

pub loop-node-preserved : goal.loop-node-preserved
loop-node-preserved c =
    elim c.match-node.branch [
      | in-Var+in_ok-bind-in-Var+else-not-branch w ↦ rw (w.subst-is, w.place-is) (at_bound c.args.pattern.now c.args.term.now c.args.subst.now c.requires.whole_pattern c.requires.whole_term c.loop-node.node-index c.loop-node.place c.loop-node.subst _ c.loop-node-test.true c.loop-node.invariant w.in-Var.x w.in-Var.is w.end_of-end.result w.end_of-end.ensures.end w.bind.new.subst (rw w.if-not-branch.false at w.in_ok-bind-in-Var.ensures))
      | in-App+else-not-is_head w ↦ rw (w.subst-is, w.place-is) (at_head c.args.pattern.now c.args.term.now c.args.subst.now c.requires.whole_pattern c.requires.whole_term c.loop-node.node-index c.loop-node.place c.loop-node.subst _ c.loop-node-test.true c.loop-node.invariant w.in-App.f w.in-App.n w.in-App.is (headed w.is_head.result w.if-not-is_head.false w.is_head.ensures.0))
    ]

pub returns : goal.returns
returns c = at_end c.args.pattern.now c.args.term.now c.args.subst.now c.requires.whole_pattern c.requires.whole_term c.loop-node.node-index c.loop-node.place c.loop-node.subst c.loop-node-test.false c.loop-node.invariant
