use Rattle.uc_task.proofs.Meetings.{kills_start, kills_next, kills_end}
use Rattle.uc_task.proofs.meet.kills.Goals as goal

pub loop-fact-init : goal.loop-fact-init
loop-fact-init g c = kills_start (g.O.Order.meaning c.args.order.now) c.args.number c.args.own.now c.args.facts.now c.new-list.result c.new-list.ensures

pub loop-fact-preserved : goal.loop-fact-preserved
loop-fact-preserved g c = kills_next (g.O.Order.meaning c.args.order.now) c.args.number c.args.own.now c.args.facts.now c.loop-fact.fact-index c.fact-item.result c.loop-fact.list c.add_kill.new.list c.loop-fact-test.true c.fact-item.is c.in_ok-add_kill.ensures c.loop-fact.invariant

pub returns : goal.returns
returns g c = kills_end (g.O.Order.meaning c.args.order.now) c.args.number c.args.own.now c.args.facts.now c.loop-fact.fact-index c.loop-fact.list c.loop-fact-test.false c.loop-fact.invariant
