use Rattle.std.proofs.Common.{◌-◌, ◌∙◌, subst, sym, arith}
use Rattle.uc_fact.specs.Live.{numbered}
use Rattle.uc_decide.specs.AskingAll.{AreReplies, share_of}
use Rattle.uc_decide.proofs.Shares.{share_begin, share_on, share_end}
use Rattle.uc_decide.proofs.asking_all.hand_at.Goals as goal

pub loop-ticket-init : goal.loop-ticket-init
loop-ticket-init g c = share_begin (g.O.Order.meaning c.args.order.now) (numbered c.args.system.now.facts) c.args.steps (c.args.workers - 1) c.args.place c.args.questions.now c.new-replies.result c.new-replies.ensures

pub loop-ticket-preserved : goal.loop-ticket-preserved
loop-ticket-preserved g c = share_on (g.O.Order.meaning c.args.order.now) (numbered c.args.system.now.facts) c.args.steps (c.args.workers - 1) c.args.place c.args.workers c.loop-ticket.ticket c.args.questions.now c.index-questions-ticket.result c.in_ok-ask.field-0 c.loop-ticket.replies c.push.new.self (omega (arith, c.requires.place)) (omega arith) c.index-questions-ticket.is c.in_ok-push.ensures.ok c.in_ok-ask.ensures.reply c.loop-ticket.invariant

pub returns : goal.returns
returns g c =
    let m = g.O.Order.meaning c.args.order.now in
    subst (AreReplies m (numbered c.args.system.now.facts) c.args.steps (share_of (c.args.workers - 1) c.args.place c.args.questions.now)) (sym (c.into_iter.ensures.rest ∙ c.into_vec.ensures))
    (share_end m (numbered c.args.system.now.facts) c.args.steps (c.args.workers - 1) c.args.place c.loop-ticket.ticket c.args.questions.now c.loop-ticket.replies (omega arith) c.loop-ticket.invariant)
