use Rattle.std.proofs.Common.{◌-◌, ap, subst, arith}
use Rattle.uc_shelf.specs.Entries.{live}
use Rattle.uc_rewrite.specs.Normalising.{IsNormalOf}
use Rattle.uc_bank.specs.Banks.{BankView}
use Rattle.uc_task.proofs.Limits.{normal_within}
use Rattle.uc_task.proofs.Results.{goal_result, more_result}
use Rattle.uc_task.proofs.goal.both_ends.Goals as goal

pub overflow_sub-rest : goal.overflow_sub-rest
overflow_sub-rest g c = let h = normal_within (g.O.Order.meaning c.args.bank.now.order).greater (g.O.Order.meaning c.args.bank.now.order).least (live c.args.front.now.entries) 4096 c.args.left.now c.in_ok-left.left c.in_ok-left.ensures.normal in omega (arith, h, c.len.ensures)

pub overflow_cast-rest : goal.overflow_cast-rest
overflow_cast-rest g c = let h = normal_within (g.O.Order.meaning c.args.bank.now.order).greater (g.O.Order.meaning c.args.bank.now.order).least (live c.args.front.now.entries) 4096 c.args.left.now c.in_ok-left.left c.in_ok-left.ensures.normal in omega (arith, h, c.len.ensures)

pub returns-clause-goal : goal.returns-clause-goal
returns-clause-goal g c axioms n = goal_result (g.O.Order.meaning c.args.bank.now.order) axioms c.args.front.now.entries c.args.left.now c.args.right.now c.in_ok-left.left c.in_ok-right.right _ c.stop_of.result c.in_ok-left.ensures.normal (subst (λ (b : BankView g.row.O.Denot). IsNormalOf (g.O.Order.meaning b.order).greater (g.O.Order.meaning b.order).least (live c.args.front.now.entries) (4096 - c.len.result) c.args.right.now c.in_ok-right.right) c.normalise_in.ensures.bank c.in_ok-right.ensures.normal) (ap (λ k. 4096 - k) c.len.ensures) c.stop_of.ensures n

pub returns-clause-more : goal.returns-clause-more
returns-clause-more g c axioms n = more_result (g.O.Order.meaning c.args.bank.now.order) axioms c.args.front.now.entries c.args.left.now c.args.right.now c.in_ok-left.left c.in_ok-right.right _ c.stop_of.result c.in_ok-left.ensures.normal (subst (λ (b : BankView g.row.O.Denot). IsNormalOf (g.O.Order.meaning b.order).greater (g.O.Order.meaning b.order).least (live c.args.front.now.entries) (4096 - c.len.result) c.args.right.now c.in_ok-right.right) c.normalise_in.ensures.bank c.in_ok-right.ensures.normal) (ap (λ k. 4096 - k) c.len.ensures) c.stop_of.ensures n
