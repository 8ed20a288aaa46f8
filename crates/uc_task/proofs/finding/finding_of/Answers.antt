use Rattle.std.proofs.Common.{ℕ, List, IfOk, refl, sym, subst}
use Rattle.std.proofs.lemmas.Result.{IfOk-weaker}
use Rattle.uc_term.specs.declared.equation.Equation.{Equation}
use Rattle.uc_machine.specs.declared.task.Job.TheVariants.{Goal, More, Meet, Join}
use Rattle.uc_machine.specs.Origins.{IsKnownOrigin}
use Rattle.uc_machine.specs.Results.{IsResult}
use Rattle.uc_task.proofs.Results.{can_be, result_of}
use Rattle.uc_task.proofs.finding.finding_of.Goals as goal

pub meet-requires-clause-born : goal.meet-requires-clause-born
meet-requires-clause-born g c = can_be (g.O.Order.meaning c.args.bank.now.order) c.args.axioms.now c.args.front.now.entries c.args.job.now (Meet c.in-Meet.number) c.in-Meet.is c.requires.can

pub join-requires-clause-can : goal.join-requires-clause-can
join-requires-clause-can g c = subst (λ o. IsKnownOrigin (g.O.Order.meaning o) c.args.axioms.now c.args.front.now.entries c.in-Join.origin) (sym c.order-in-Join.ensures) (can_be (g.O.Order.meaning c.args.bank.now.order) c.args.axioms.now c.args.front.now.entries c.args.job.now _ c.in-Join.is c.requires.can)

pub returns-in-Goal : goal.returns-in-Goal
returns-in-Goal g c =
    let m = g.O.Order.meaning c.args.bank.now.order in
    record {
      result = IfOk-weaker c.both_ends.result (λ f. (axioms : List Equation) (n : ℕ) → IsResult m axioms c.args.front.now.entries (Goal n c.in-Goal.left c.in-Goal.right) f) (IsResult m c.args.axioms.now c.args.front.now.entries c.args.job.now)
          (λ f h. result_of m c.args.axioms.now c.args.front.now.entries c.args.front.now.entries c.args.job.now _ f c.in-Goal.is refl (h c.args.axioms.now _)) c.both_ends.ensures.goal;
      bank = c.both_ends.ensures.bank;
    }

pub returns-in-More : goal.returns-in-More
returns-in-More g c =
    let m = g.O.Order.meaning c.args.bank.now.order in
    record {
      result = IfOk-weaker c.both_ends-in-More.result (λ f. (axioms : List Equation) (n : ℕ) → IsResult m axioms c.args.front.now.entries (More n c.in-More.left c.in-More.right) f) (IsResult m c.args.axioms.now c.args.front.now.entries c.args.job.now)
          (λ f h. result_of m c.args.axioms.now c.args.front.now.entries c.args.front.now.entries c.args.job.now _ f c.in-More.is refl (h c.args.axioms.now _)) c.both_ends-in-More.ensures.more;
      bank = c.both_ends-in-More.ensures.bank;
    }

pub returns-in-Meet : goal.returns-in-Meet
returns-in-Meet g c =
    let m = g.O.Order.meaning c.args.bank.now.order in
    record {
      result = IfOk-weaker c.meet.result (λ f. (axioms : List Equation) → IsResult m axioms c.args.front.now.entries (Meet c.in-Meet.number) f) (IsResult m c.args.axioms.now c.args.front.now.entries c.args.job.now)
          (λ f h. result_of m c.args.axioms.now c.args.front.now.entries c.args.front.now.entries c.args.job.now (Meet c.in-Meet.number) f c.in-Meet.is refl (h c.args.axioms.now))
          (subst (λ o. IfOk c.meet.result (λ f. (axioms : List Equation) → IsResult (g.O.Order.meaning o) axioms c.args.front.now.entries (Meet c.in-Meet.number) f)) c.order.ensures c.meet.ensures);
      bank = refl;
    }

pub returns-in-Join : goal.returns-in-Join
returns-in-Join g c =
    let m = g.O.Order.meaning c.args.bank.now.order in
    record {
      result = IfOk-weaker c.join.result (λ f. (p : ℕ) → IsResult m c.args.axioms.now c.args.front.now.entries (Join p c.in-Join.origin) f) (IsResult m c.args.axioms.now c.args.front.now.entries c.args.job.now)
          (λ f h. result_of m c.args.axioms.now c.args.front.now.entries c.args.front.now.entries c.args.job.now _ f c.in-Join.is refl (h _))
          (subst (λ o. IfOk c.join.result (λ f. (p : ℕ) → IsResult (g.O.Order.meaning o) c.args.axioms.now c.args.front.now.entries (Join p c.in-Join.origin) f)) c.order-in-Join.ensures c.join.ensures);
      bank = refl;
    }
