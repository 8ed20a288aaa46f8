use Rattle.std.proofs.Common.{◌∙◌}
use Rattle.uc_unify.proofs.Decided.{never, always}
use Rattle.uc_task.proofs.Reduced.{no_step_in, step_in}
use Rattle.uc_task.proofs.reducing.steps_in.Goals as goal

pub returns-then-branch : goal.returns-then-branch
returns-then-branch g c = always (step_in (g.O.Order.meaning c.args.order.now) c.args.equation.now c.new.result.facts.now c.args.term.now (c.new.ensures ∙ c.from_ref.ensures.value) (c.in_ok-is_reducible.ensures.yes c.if-branch.true))

pub returns-else-branch : goal.returns-else-branch
returns-else-branch g c = never (no_step_in (g.O.Order.meaning c.args.order.now) c.args.equation.now c.new.result.facts.now c.args.term.now (c.new.ensures ∙ c.from_ref.ensures.value) (c.in_ok-is_reducible.ensures.no c.if-branch.false))
