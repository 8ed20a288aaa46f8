use Rattle.uc_term.proofs.Terms.{whole_one}
use Rattle.uc_fact.proofs.Fitting.{none_at_start, none_at_head, none_at_var, none_at_here, none_at_end, within_var, split_var}
use Rattle.uc_fact.proofs.instance.first_against.Goals as goal
use Rattle.uc_fact.proofs.instance.first_against.Goals.{in-Var+else-x-y, in-App}

pub loop-node-init : goal.loop-node-init
loop-node-init c = none_at_start c.args.pattern.now c.args.term.now c.requires.whole_pattern c.requires.whole_term c.args.x

pub end_of-end-requires-clause-whole : goal.end_of-end-requires-clause-whole
end_of-end-requires-clause-whole c = whole_one c.args.term.now c.requires.whole_term

pub end_of-end-requires-clause-within : goal.end_of-end-requires-clause-within
end_of-end-requires-clause-within c = within_var c.args.pattern.now c.args.term.now c.requires.whole_pattern c.requires.whole_term c.loop-node.node-index c.loop-node.place _ c.loop-node-test.true c.loop-node.invariant.standing c.in-Var.y c.in-Var.is

pub returns-then-x-y : goal.returns-then-x-y
returns-then-x-y c =
    let e = c.if-x-y.true in
    ((split_var c.args.pattern.now c.args.term.now c.requires.whole_pattern c.requires.whole_term c.loop-node.node-index c.loop-node.place _ c.loop-node-test.true c.in-Var.y c.end_of-end.result c.in-Var.is c.end_of-end.ensures.end c.loop-node.invariant.standing).whole, rw e (none_at_here c.args.pattern.now c.args.term.now c.requires.whole_pattern c.requires.whole_term c.loop-node.node-index c.loop-node.place _ c.loop-node-test.true c.in-Var.y c.end_of-end.result c.in-Var.is c.end_of-end.ensures.end (rw e at c.loop-node.invariant)))

pub loop-node-preserved : goal.loop-node-preserved
loop-node-preserved c =
    elim c.match-node.branch [
      | in-Var+else-x-y w ↦ rw w.place-is (none_at_var c.args.pattern.now c.args.term.now c.requires.whole_pattern c.requires.whole_term c.loop-node.node-index c.loop-node.place _ c.loop-node-test.true w.in-Var.y w.end_of-end.result w.in-Var.is w.end_of-end.ensures.end c.args.x w.if-x-y.false c.loop-node.invariant)
      | in-App w ↦ rw w.place-is (none_at_head c.args.pattern.now c.args.term.now c.requires.whole_pattern c.requires.whole_term c.loop-node.node-index c.loop-node.place _ c.loop-node-test.true c.args.x w.in-App.field-0 w.in-App.field-1 w.in-App.is c.requires.fit c.loop-node.invariant)
    ]

pub returns : goal.returns
returns c = none_at_end c.args.pattern.now c.args.term.now c.requires.whole_pattern c.requires.whole_term c.args.x c.loop-node.node-index c.loop-node.place c.loop-node-test.false c.loop-node.invariant
