use Rattle.std.proofs.Common.{◌≡◌, ◌∙◌, ◌∷◌, [], List, length, drop, refl, sym, ap, subst, arith}
use Rattle.uc_order.specs.Members.{In, Each}
use Rattle.uc_order.specs.VarOrders.{Classes, orders_of}
use Rattle.uc_fact.specs.declared.joinable.Joinable.TheVariants.{Joined, Apart}
use Rattle.uc_fact.specs.declared.joinable.Reason.TheVariants.{Orders}
use Rattle.uc_ground.specs.Joining.{IsTriedUnder, agree_under_all}
use Rattle.uc_ground.proofs.Answered.{first_differs, first_agrees}
use Rattle.uc_ground.specs.Orders.{others_of}
use Rattle.uc_ground.proofs.Orders.{some_order, others_are_in}
use Rattle.uc_ground.proofs.Tried.{known_left, known_right}
use Rattle.uc_ground.proofs.join.join_under_others.Goals as goal

pub remove-requires : goal.remove-requires
remove-requires g c = omega (arith, c.in_ok-orders.orders.ok.0, ap length c.in_ok-orders.ensures, some_order c.args.vars.now)

pub loop-cases-init : goal.loop-cases-init
loop-cases-init g c =
    let e : c.into_iter-cases-iterator.result.rest.items ≡ others_of c.args.vars.now = c.into_iter-cases-iterator.ensures.into_iter_gives.0 ∙ c.remove.ensures.by_index.2 ∙ ap (drop 1) c.in_ok-orders.ensures in
    (tt, tt, subst (Each (In (orders_of c.args.vars.now))) (sym e) (others_are_in c.args.vars.now), λ answer f. subst (λ l. IsTriedUnder (g.O.Order.meaning c.args.order.now) (g.I.Index.live c.args.index.now) c.args.s.now c.args.t.now l answer) e f)

member : (all before after : List Classes) (cases : Classes) → before ≡ cases ∷ after → Each (In all) before → In all cases × Each (In all) after
member all before after cases e h = let r = subst (Each (In all)) e h in (r.0, r.1)

empty : (xs : List Classes) → length xs ≡ 0 → xs ≡ []
empty [] e = refl
empty (x ∷ xs) e = absurd cc

pub different_ends-requires-clause-s_known : goal.different_ends-requires-clause-s_known
different_ends-requires-clause-s_known g c = known_left c.args.s.now c.args.t.now c.args.vars.now c.requires c.in-Some.cases (member (orders_of c.args.vars.now) c.loop-cases.cases-iterator.rest.items c.next.new.self.rest.items c.in-Some.cases c.in-Some.ensures.steps.0 c.loop-cases.invariant.2).0

pub different_ends-requires-clause-t_known : goal.different_ends-requires-clause-t_known
different_ends-requires-clause-t_known g c = known_right c.args.s.now c.args.t.now c.args.vars.now c.requires c.in-Some.cases (member (orders_of c.args.vars.now) c.loop-cases.cases-iterator.rest.items c.next.new.self.rest.items c.in-Some.cases c.in-Some.ensures.steps.0 c.loop-cases.invariant.2).0

pub returns-in-Some-2 : goal.returns-in-Some-2
returns-in-Some-2 g c = c.loop-cases.invariant.3 (Apart c.in-Some.cases c.in-Some-2.left c.in-Some-2.right) (first_differs (g.O.Order.meaning c.args.order.now) (g.I.Index.live c.args.index.now) c.args.s.now c.args.t.now c.in-Some.cases c.loop-cases.cases-iterator.rest.items c.next.new.self.rest.items c.in-Some.ensures.steps.0 c.in_ok-left.field-0 c.in-Some-2.left c.in-Some-2.right c.in-Some-2.is c.in_ok-left.ensures)

pub loop-cases-preserved : goal.loop-cases-preserved
loop-cases-preserved g c =
    let e = c.in-Some.ensures.steps.0 in
    (tt, tt, (member (orders_of c.args.vars.now) c.loop-cases.cases-iterator.rest.items c.next.new.self.rest.items c.in-Some.cases e c.loop-cases.invariant.2).1, λ answer f. c.loop-cases.invariant.3 answer (first_agrees (g.O.Order.meaning c.args.order.now) (g.I.Index.live c.args.index.now) c.args.s.now c.args.t.now c.in-Some.cases c.loop-cases.cases-iterator.rest.items c.next.new.self.rest.items e c.in_ok-left.field-0 c.in_default.not-Some c.in_ok-left.ensures answer f))

pub returns : goal.returns
returns g c = c.loop-cases.invariant.3 (Joined Orders) (subst (λ l. IsTriedUnder (g.O.Order.meaning c.args.order.now) (g.I.Index.live c.args.index.now) c.args.s.now c.args.t.now l (Joined Orders)) (sym (empty c.loop-cases.cases-iterator.rest.items (sym c.loop-cases.cases-iterator.rest.ok.0 ∙ c.in-None.ensures.steps.0))) agree_under_all)
