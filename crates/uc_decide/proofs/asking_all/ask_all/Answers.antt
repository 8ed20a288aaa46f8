use Rattle.std.proofs.lemmas.Result.{IfOk-weaker}
use Rattle.uc_fact.specs.Live.{numbered}
use Rattle.uc_decide.specs.AskingAll.{AreReplies}
use Rattle.uc_decide.proofs.RightReplies.{all_right}
use Rattle.uc_decide.proofs.asking_all.ask_all.Goals as goal

pub returns-then-workers-eq1-clause-right : goal.returns-then-workers-eq1-clause-right
returns-then-workers-eq1-clause-right g c =
    let m = g.O.Order.meaning c.args.order.now in
    let es = c.args.system.now.facts in
    IfOk-weaker c.ask_alone.result (AreReplies m (numbered es) c.args.steps c.args.questions.now) _
    (λ replies are axioms d ground over. all_right m ((g.met.O.Order g.world.𝓛 g.world.𝓜 g.world.𝓡 ((λ s x. x), (λ x. x), (λ x. x), λ x. x)).laws c.args.order.now) es axioms c.args.steps d over c.args.questions.now replies ground are)
    c.ask_alone.ensures

pub returns-else-workers-eq1-clause-right : goal.returns-else-workers-eq1-clause-right
returns-else-workers-eq1-clause-right g c =
    let m = g.O.Order.meaning c.args.order.now in
    let es = c.args.system.now.facts in
    IfOk-weaker c.ask_together.result (AreReplies m (numbered es) c.args.steps c.args.questions.now) _
    (λ replies are axioms d ground over. all_right m ((g.met.O.Order g.world.𝓛 g.world.𝓜 g.world.𝓡 ((λ s x. x), (λ x. x), (λ x. x), λ x. x)).laws c.args.order.now) es axioms c.args.steps d over c.args.questions.now replies ground are)
    c.ask_together.ensures
