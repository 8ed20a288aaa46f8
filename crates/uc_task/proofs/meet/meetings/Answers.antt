use Rattle.uc_task.proofs.Meetings.{meets_start, meets_next, meets_end}
use Rattle.uc_task.proofs.meet.meetings.Goals as goal

pub loop-fact-init : goal.loop-fact-init
loop-fact-init g c = meets_start (g.O.Order.meaning c.args.order.now) c.args.number c.args.own.now c.args.facts.now c.new-list.result c.new-list.ensures

pub loop-fact-preserved : goal.loop-fact-preserved
loop-fact-preserved g c = meets_next (g.O.Order.meaning c.args.order.now) c.args.number c.args.own.now c.args.facts.now c.loop-fact.fact-index c.fact-item.result c.loop-fact.list c.add_overlaps.new.list c.loop-fact-test.true c.fact-item.is c.in_ok-add_overlaps.ensures c.loop-fact.invariant

pub returns : goal.returns
returns g c = meets_end (g.O.Order.meaning c.args.order.now) c.args.number c.args.own.now c.args.facts.now c.loop-fact.fact-index c.loop-fact.list c.in_ok-with_itself.with_itself c.append.new.self c.loop-fact-test.false c.in_ok-with_itself.ensures.list c.in_ok-append.ensures.ok c.loop-fact.invariant
