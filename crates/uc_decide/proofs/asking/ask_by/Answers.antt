use Rattle.std.proofs.Common.{arith}
use Rattle.uc_decide.specs.Asking.{left_spent, left_grown, right_spent, right_grown}
use Rattle.uc_decide.proofs.Replies.{with_rest, made_within, by_ends}
use Rattle.uc_decide.proofs.asking.ask_by.Goals as goal

pub overflow_sub-others : goal.overflow_sub-others
overflow_sub-others g c = made_within (g.O.Order.meaning c.args.order.now) (g.I.Index.live c.args.index.now) c.args.steps c.len.result c.args.s.now c.in_ok-left.left c.len.ensures c.in_ok-left.ensures.normal

pub overflow_cast-others : goal.overflow_cast-others
overflow_cast-others g c = let h = c.ranges.steps.fits in omega (arith, made_within (g.O.Order.meaning c.args.order.now) (g.I.Index.live c.args.index.now) c.args.steps c.len.result c.args.s.now c.in_ok-left.left c.len.ensures c.in_ok-left.ensures.normal)

pub returns-in-Full-stop : goal.returns-in-Full-stop
returns-in-Full-stop g c =
    by_ends (g.O.Order.meaning c.args.order.now) (g.I.Index.live c.args.index.now) c.args.steps c.args.s.now c.args.t.now c.in_ok-left.left c.in_ok-right-in-Full.right c.by_ends.result c.in_ok-left.ensures.normal c.in-Full.is
    (with_rest (g.O.Order.meaning c.args.order.now) (g.I.Index.live c.args.index.now) c.args.steps c.len.result c.args.t.now c.in_ok-left.left c.in_ok-right-in-Full.right c.len.ensures c.in_ok-right-in-Full.ensures.normal)
    c.in-Full-stop.is
    c.by_ends.ensures

pub returns-in-Steps-stop : goal.returns-in-Steps-stop
returns-in-Steps-stop g c = right_spent c.in_ok-left.ensures.normal c.in-Full.is (with_rest (g.O.Order.meaning c.args.order.now) (g.I.Index.live c.args.index.now) c.args.steps c.len.result c.args.t.now c.in_ok-left.left c.in_ok-right-in-Full.right c.len.ensures c.in_ok-right-in-Full.ensures.normal) c.in-Steps-stop.is

pub returns-in-Size-stop : goal.returns-in-Size-stop
returns-in-Size-stop g c = right_grown c.in_ok-left.ensures.normal c.in-Full.is (with_rest (g.O.Order.meaning c.args.order.now) (g.I.Index.live c.args.index.now) c.args.steps c.len.result c.args.t.now c.in_ok-left.left c.in_ok-right-in-Full.right c.len.ensures c.in_ok-right-in-Full.ensures.normal) c.in-Size-stop.is

pub returns-in-Steps : goal.returns-in-Steps
returns-in-Steps g c = left_spent c.in_ok-left.ensures.normal c.in-Steps.is

pub returns-in-Size : goal.returns-in-Size
returns-in-Size g c = left_grown c.in_ok-left.ensures.normal c.in-Size.is
