use Rattle.std.proofs.Common.{◌↔◌, IsTrue}
use Rattle.std.proofs.lemmas.Result.{IfOk-weaker}
use Rattle.uc_unify.proofs.Decided.{never}
use Rattle.uc_machine.specs.Results.{Reduces}
use Rattle.uc_shelf.specs.Lending.{lent_of}
use Rattle.uc_task.specs.Meeting.{IsReducedByIt}
use Rattle.uc_task.proofs.meet.is_reduced_by.Goals as goal

pub returns-then-fact-number : goal.returns-then-fact-number
returns-then-fact-number g c = never (λ r. r.other c.if-fact-number.true)

pub returns : goal.returns
returns g c =
    let m = g.O.Order.meaning c.args.order.now in
    IfOk-weaker c.reduces.result (λ answer. IsTrue answer ↔ Reduces m c.args.fact.now.equation.now c.args.own.now) (λ answer. IsTrue answer ↔ IsReducedByIt m c.args.number c.args.own.now (lent_of c.args.fact.now))
    (λ answer h. (λ t. record { other = c.if-fact-number.false; reduces = h.0 t }, λ r. h.1 r.reduces)) c.reduces.ensures
