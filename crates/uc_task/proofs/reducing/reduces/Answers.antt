use Rattle.std.proofs.Common.{◌↔◌, IsTrue}
use Rattle.std.proofs.lemmas.Result.{IfOk-weaker}
use Rattle.uc_unify.proofs.Decided.{always, not_of}
use Rattle.uc_machine.specs.Results.{Reduces, in_left, in_right}
use Rattle.uc_task.specs.Reducing.{HasInstance}
use Rattle.uc_task.proofs.Reduced.{reduces_by_instance}
use Rattle.uc_task.proofs.reducing.reduces.Goals as goal

pub returns-then-branch : goal.returns-then-branch
returns-then-branch g c = always (in_left (c.in_ok-steps_in.ensures.0 c.if-branch.true))

pub returns-then-branch-2 : goal.returns-then-branch-2
returns-then-branch-2 g c = always (in_right (c.in_ok-steps_in-2.ensures.0 c.if-branch-2.true))

pub returns : goal.returns
returns g c =
    IfOk-weaker c.has_instance.result (λ answer. IsTrue answer ↔ HasInstance c.args.equation.now c.args.other.now) (λ answer. IsTrue answer ↔ Reduces (g.O.Order.meaning c.args.order.now) c.args.equation.now c.args.other.now)
    (λ answer h. reduces_by_instance (g.O.Order.meaning c.args.order.now) c.args.equation.now c.args.other.now answer (not_of c.in_ok-steps_in.field-0 c.if-branch.false c.in_ok-steps_in.ensures) (not_of c.in_ok-steps_in-2.field-0 c.if-branch-2.false c.in_ok-steps_in-2.ensures) h)
    c.has_instance.ensures
