use Rattle.std.proofs.Common.{◌↔◌, IsTrue}
use Rattle.std.proofs.lemmas.Result.{IfOk-weaker}
use Rattle.uc_unify.proofs.Decided.{always, not_of}
use Rattle.uc_task.specs.Reducing.{Gives, HasInstance}
use Rattle.uc_task.proofs.Reduced.{given_forth, given_back, instance_back}
use Rattle.uc_task.proofs.reducing.has_instance.Goals as goal

pub returns-then-branch : goal.returns-then-branch
returns-then-branch c = always (given_forth c.args.equation.now c.args.other.now (c.in_ok-is_instance.ensures.0 c.if-branch.true))

pub returns : goal.returns
returns c =
    IfOk-weaker c.is_instance-2.result (λ answer. IsTrue answer ↔ Gives c.args.equation.now.right c.args.equation.now.left c.args.other.now) (λ answer. IsTrue answer ↔ HasInstance c.args.equation.now c.args.other.now)
    (λ answer h. (λ t. given_back c.args.equation.now c.args.other.now (h.0 t), λ i. h.1 (instance_back c.args.equation.now c.args.other.now (not_of c.in_ok-is_instance.field-0 c.if-branch.false c.in_ok-is_instance.ensures) i)))
    c.is_instance-2.ensures
