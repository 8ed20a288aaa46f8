use Rattle.std.proofs.Common.{◌∙◌}
use Rattle.std.proofs.lemmas.Result.{IfOk-weaker}
use Rattle.uc_fact.specs.Live.{numbered}
use Rattle.uc_decide.specs.Asking.{IsReply}
use Rattle.uc_decide.proofs.Replies.{normal_forms_by}
use Rattle.uc_decide.proofs.Verdicts.{right}
use Rattle.uc_decide.proofs.asking.ask.Goals as goal

pub returns-clause-normal_forms : goal.returns-clause-normal_forms
returns-clause-normal_forms g c = IfOk-weaker c.ask_by.result (IsReply (g.O.Order.meaning c.args.order.now) (numbered c.new-index.result.facts.now) c.args.steps c.args.s.now c.args.t.now) _ (normal_forms_by (g.O.Order.meaning c.args.order.now) (g.met.O.Order.laws c.args.order.now) c.new-index.result.facts.now c.args.system.now.facts (c.new-index.ensures ∙ c.as_slice.ensures) c.args.steps c.args.s.now c.args.t.now) c.ask_by.ensures

pub returns-clause-right : goal.returns-clause-right
returns-clause-right g c =
    let m = g.O.Order.meaning c.args.order.now in
    let es = c.args.system.now.facts in
    let s = c.args.s.now in
    let t = c.args.t.now in
    IfOk-weaker c.ask_by.result (IsReply m (numbered c.new-index.result.facts.now) c.args.steps s t) _
    (λ reply r axioms d gs gt over. right m es axioms d s t reply gs gt (normal_forms_by m (g.met.O.Order.laws c.args.order.now) c.new-index.result.facts.now es (c.new-index.ensures ∙ c.as_slice.ensures) c.args.steps s t reply r gs gt over))
    c.ask_by.ensures
