use Rattle.uc_shelf.specs.Entries.{live}
use Rattle.uc_machine.specs.Results.{Trial}
use Rattle.uc_task.proofs.Limits.{normal_within}
use Rattle.uc_task.proofs.Results.{trial_is, joined_trial, not_joined, open_trial}
use Rattle.uc_task.proofs.trial.try_pair.Goals as goal

pub kept-requires-clause-left_short : goal.kept-requires-clause-left_short
kept-requires-clause-left_short g c = normal_within (g.O.Order.meaning c.args.order.now).greater (g.O.Order.meaning c.args.order.now).least (live c.view-view.result) 4096 c.in_ok-pair.pair.equation.left c.in_ok-left.left c.in_ok-left.ensures.normal

pub kept-requires-clause-right_short : goal.kept-requires-clause-right_short
kept-requires-clause-right_short g c = normal_within (g.O.Order.meaning c.args.order.now).greater (g.O.Order.meaning c.args.order.now).least (live c.view-view.result) 4096 c.in_ok-pair.pair.equation.right c.in_ok-right.right c.in_ok-right.ensures.normal

pub returns-in-Joined : goal.returns-in-Joined
returns-in-Joined g c =
    let m = g.O.Order.meaning c.args.order.now in
    let t : Trial = record { equation = c.in_ok-pair.pair.equation; chain = c.in_ok-pair.pair.chain; left = c.in_ok-left.left; right = c.in_ok-right.right; answer = c.in_ok-tested.tested } in
    let i = trial_is m c.args.axioms.now c.args.front.now.entries c.args.origin.now t c.view-view.result c.view-view.ensures c.in_ok-pair.ensures.pair c.in_ok-left.ensures.normal c.in_ok-right.ensures.normal c.in_ok-tested.ensures.answer in
    joined_trial m c.args.axioms.now c.args.front.now.entries c.args.origin.now t c.in-Joined.why i c.in-Joined.is

pub returns-in_ok-fact-in_default : goal.returns-in_ok-fact-in_default
returns-in_ok-fact-in_default g c =
    let m = g.O.Order.meaning c.args.order.now in
    let t : Trial = record { equation = c.in_ok-pair.pair.equation; chain = c.in_ok-pair.pair.chain; left = c.in_ok-left.left; right = c.in_ok-right.right; answer = c.in_ok-tested.tested } in
    let i = trial_is m c.args.axioms.now c.args.front.now.entries c.args.origin.now t c.view-view.result c.view-view.ensures c.in_ok-pair.ensures.pair c.in_ok-left.ensures.normal c.in_ok-right.ensures.normal c.in_ok-tested.ensures.answer in
    open_trial m c.args.axioms.now c.args.front.now.entries c.args.origin.now t c.len.result c.in_ok-fact-in_default.fact i (not_joined c.in_ok-tested.tested c.in_default.not-Joined) c.len.ensures.value (c.in_ok-fact-in_default.ensures t.equation t.answer)
