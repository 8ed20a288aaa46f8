use Rattle.std.proofs.Common.{◌≡◌, Bool, true, false, IsTrue, refl}
use Rattle.uc_term.proofs.Terms.{whole_one}
use Rattle.uc_fact.proofs.Fitting.{one_at_start, one_at_head, one_at_var, one_at_refused, one_at_end, within_var, split_var}
use Rattle.uc_fact.proofs.instance.repeats_agree.Goals as goal
use Rattle.uc_fact.proofs.instance.repeats_agree.Goals.{in-Var+else-not-is_new_or_same, in-App}

passed : {A : Type 0} (b : Bool) → b ≡ true → (IsTrue b → A) → A
passed true e h = h refl
passed false e h = absurd cc

pub loop-node-init : goal.loop-node-init
loop-node-init c = one_at_start c.args.pattern.now c.args.term.now c.requires.whole_pattern c.requires.whole_term

pub end_of-end-requires-clause-whole : goal.end_of-end-requires-clause-whole
end_of-end-requires-clause-whole c = whole_one c.args.term.now c.requires.whole_term

pub end_of-end-requires-clause-within : goal.end_of-end-requires-clause-within
end_of-end-requires-clause-within c = within_var c.args.pattern.now c.args.term.now c.requires.whole_pattern c.requires.whole_term c.loop-node.node-index c.loop-node.place _ c.loop-node-test.true c.loop-node.invariant.standing c.in-Var.x c.in-Var.is

pub is_new_or_same-requires-clause-whole_part : goal.is_new_or_same-requires-clause-whole_part
is_new_or_same-requires-clause-whole_part c = (split_var c.args.pattern.now c.args.term.now c.requires.whole_pattern c.requires.whole_term c.loop-node.node-index c.loop-node.place _ c.loop-node-test.true c.in-Var.x c.end_of-end.result c.in-Var.is c.end_of-end.ensures.end c.loop-node.invariant.standing).whole

pub returns-then-not-is_new_or_same-clause-no : goal.returns-then-not-is_new_or_same-clause-no
returns-then-not-is_new_or_same-clause-no c = λ _. one_at_refused c.args.pattern.now c.args.term.now c.requires.whole_pattern c.requires.whole_term c.loop-node.node-index c.loop-node.place _ c.loop-node-test.true c.in-Var.x c.end_of-end.result c.in-Var.is c.end_of-end.ensures.end c.loop-node.bound (c.is_new_or_same.ensures.no c.if-not-is_new_or_same.true) c.loop-node.invariant

pub loop-node-preserved : goal.loop-node-preserved
loop-node-preserved c =
    elim c.match-node.branch [
      | in-Var+else-not-is_new_or_same w ↦ rw (w.place-is, w.bound-is) (one_at_var c.args.pattern.now c.args.term.now c.requires.whole_pattern c.requires.whole_term c.loop-node.node-index c.loop-node.place _ c.loop-node-test.true w.in-Var.x w.end_of-end.result w.in-Var.is w.end_of-end.ensures.end c.loop-node.bound w.bound_with-bound.result w.bound_with-bound.ensures.old w.bound_with-bound.ensures.new (passed w.is_new_or_same.result w.if-not-is_new_or_same.false w.is_new_or_same.ensures.yes) c.loop-node.invariant)
      | in-App w ↦ rw (w.place-is, w.bound-is) (one_at_head c.args.pattern.now c.args.term.now c.requires.whole_pattern c.requires.whole_term c.loop-node.node-index c.loop-node.place _ c.loop-node-test.true c.loop-node.bound w.in-App.field-0 w.in-App.field-1 w.in-App.is c.requires.fit c.loop-node.invariant)
    ]

pub returns-clause-yes : goal.returns-clause-yes
returns-clause-yes c = λ _. one_at_end c.args.pattern.now c.args.term.now c.requires.whole_pattern c.requires.whole_term c.loop-node.bound c.loop-node.node-index c.loop-node.place c.loop-node-test.false c.loop-node.invariant
