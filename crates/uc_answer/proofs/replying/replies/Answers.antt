use Rattle.std.proofs.Common.{List}
use Rattle.std.proofs.lemmas.Result.{IfOk-weaker}
use Rattle.uc_term.specs.declared.equation.Equation.{Equation}
use Rattle.uc_order.specs.Laws.{HasSym}
use Rattle.uc_fact.specs.Live.{numbered}
use Rattle.uc_fact.specs.Ground.{AreOfSignature}
use Rattle.uc_decide.specs.Deciding.{Decides}
use Rattle.uc_decide.specs.AskingAll as asked
use Rattle.uc_answer.proofs.ReplyLists.{all_replied, are_ground, all_right}
use Rattle.uc_answer.proofs.replying.replies.Goals as goal

pub returns-clause-replies : goal.returns-clause-replies
returns-clause-replies g c =
    let m = g.O.Order.meaning c.args.order.now in
    let facts = numbered c.args.system.now.facts in
    let qs = c.args.questions.now in
    IfOk-weaker c.ask_all.result (asked.AreReplies m facts c.args.steps qs) _ (λ replies are. all_replied m facts c.args.steps qs replies are) c.ask_all.ensures.replies

pub returns-clause-right : goal.returns-clause-right
returns-clause-right g c =
    let m = g.O.Order.meaning c.args.order.now in
    let es = c.args.system.now.facts in
    let qs = c.args.questions.now in
    IfOk-weaker c.ask_all.result (λ replies. (axioms : List Equation) → Decides m es axioms → asked.AreGroundQuestions m qs → AreOfSignature (HasSym m) m.arity es → asked.AreRight m axioms qs replies) _
    (λ replies are axioms d ground over. all_right m axioms qs replies (are axioms d (are_ground m qs ground) over))
    c.ask_all.ensures.right
