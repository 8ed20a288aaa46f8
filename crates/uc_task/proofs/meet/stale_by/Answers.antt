use Rattle.uc_unify.proofs.Decided.{not_of}
use Rattle.uc_task.proofs.Meetings.{none_start, none_next, none_end, first_here}
use Rattle.uc_task.proofs.meet.stale_by.Goals as goal

pub loop-fact-init : goal.loop-fact-init
loop-fact-init g c = none_start (g.O.Order.meaning c.args.order.now) c.args.number c.args.own.now c.args.facts.now

pub returns-then-branch : goal.returns-then-branch
returns-then-branch g c = first_here (g.O.Order.meaning c.args.order.now) c.args.number c.args.own.now c.args.facts.now c.loop-fact.fact-index c.fact-item.result c.loop-fact-test.true c.fact-item.is (c.in_ok-is_reduced_by.ensures.0 c.if-branch.true) c.loop-fact.invariant

pub loop-fact-preserved : goal.loop-fact-preserved
loop-fact-preserved g c = none_next (g.O.Order.meaning c.args.order.now) c.args.number c.args.own.now c.args.facts.now c.loop-fact.fact-index c.fact-item.result c.loop-fact-test.true c.fact-item.is (not_of c.in_ok-is_reduced_by.field-0 c.if-branch.false c.in_ok-is_reduced_by.ensures) c.loop-fact.invariant

pub returns : goal.returns
returns g c = none_end (g.O.Order.meaning c.args.order.now) c.args.number c.args.own.now c.args.facts.now c.loop-fact.fact-index c.loop-fact-test.false c.loop-fact.invariant
