use Rattle.std.proofs.Common.{◌≡◌, ◌∙◌, ◌∷◌, [], List, length, refl, sym, ap, subst}
use Rattle.uc_fact.specs.declared.joinable.Joinable.TheVariants.{Joined}
use Rattle.uc_fact.specs.declared.joinable.Reason.TheVariants as reason
use Rattle.uc_order.specs.VarOrders.{Classes, orders_of}
use Rattle.uc_ground.proofs.Tried.{known_left, known_right}
use Rattle.uc_certify.specs.Making.{AreMadeCases}
use Rattle.uc_certify.proofs.MadeEnds.{answered, casing_begins, agrees_here, member_here, casing_on, casing_ends}
use Rattle.uc_certify.proofs.ending.cases_of.Goals as goal

empty : (xs : List Classes) → length xs ≡ 0 → xs ≡ []
empty [] e = refl
empty (x ∷ xs) e = absurd cc

pub loop-cases-init : goal.loop-cases-init
loop-cases-init g c =
    let e : c.into_iter-cases-iterator.result.rest.items ≡ orders_of c.in_ok-vars.vars.items = c.into_iter-cases-iterator.ensures.into_iter_gives.0 ∙ c.in_ok-cases-items.ensures ∙ ap orders_of c.as_slice.ensures.value in (
      tt,
      tt,
      casing_begins (g.O.Order.meaning c.args.order.now) (g.I.Index.live c.args.index.now) c.args.s.now c.args.t.now c.in_ok-vars.vars.items c.into_iter-cases-iterator.result.rest.items c.new-list.result.items
          (answered (g.O.Order.meaning c.args.order.now) (g.I.Index.live c.args.index.now) c.args.s.now c.args.t.now (Joined reason.Orders) reason.Orders c.requires refl) c.in_ok-vars.ensures.are e c.new-list.ensures.items,
    )

pub case_of-requires-clause-s_known : goal.case_of-requires-clause-s_known
case_of-requires-clause-s_known g c =
    known_left c.args.s.now c.args.t.now c.in_ok-vars.vars.items c.in_ok-vars.ensures.are c.in-Some.cases
    (member_here (g.O.Order.meaning c.args.order.now) (g.I.Index.live c.args.index.now) c.args.s.now c.args.t.now (orders_of c.in_ok-vars.vars.items) c.loop-cases.cases-iterator.rest.items c.next.new.self.rest.items c.in-Some.cases c.loop-cases.list.items c.loop-cases.invariant.2 c.in-Some.ensures.steps.0)

pub case_of-requires-clause-t_known : goal.case_of-requires-clause-t_known
case_of-requires-clause-t_known g c =
    known_right c.args.s.now c.args.t.now c.in_ok-vars.vars.items c.in_ok-vars.ensures.are c.in-Some.cases
    (member_here (g.O.Order.meaning c.args.order.now) (g.I.Index.live c.args.index.now) c.args.s.now c.args.t.now (orders_of c.in_ok-vars.vars.items) c.loop-cases.cases-iterator.rest.items c.next.new.self.rest.items c.in-Some.cases c.loop-cases.list.items c.loop-cases.invariant.2 c.in-Some.ensures.steps.0)

pub case_of-requires-clause-meet : goal.case_of-requires-clause-meet
case_of-requires-clause-meet g c =
    agrees_here (g.O.Order.meaning c.args.order.now) (g.I.Index.live c.args.index.now) c.args.s.now c.args.t.now (orders_of c.in_ok-vars.vars.items) c.loop-cases.cases-iterator.rest.items c.next.new.self.rest.items c.in-Some.cases c.loop-cases.list.items c.loop-cases.invariant.2 c.in-Some.ensures.steps.0

pub loop-cases-preserved : goal.loop-cases-preserved
loop-cases-preserved g c =
    (tt, tt, casing_on (g.O.Order.meaning c.args.order.now) (g.I.Index.live c.args.index.now) c.args.s.now c.args.t.now (orders_of c.in_ok-vars.vars.items) c.loop-cases.cases-iterator.rest.items c.next.new.self.rest.items c.in-Some.cases c.loop-cases.list.items c.loop-cases.invariant.2 c.in-Some.ensures.steps.0 c.in_ok-case_of.field-0 c.push.new.self.items c.in_ok-case_of.ensures c.in_ok-push.ensures.items)

pub returns : goal.returns
returns g c =
    let made = casing_ends (g.O.Order.meaning c.args.order.now) (g.I.Index.live c.args.index.now) c.args.s.now c.args.t.now (orders_of c.in_ok-vars.vars.items) c.loop-cases.cases-iterator.rest.items c.loop-cases.list.items c.loop-cases.invariant.2 (empty c.loop-cases.cases-iterator.rest.items (sym c.loop-cases.cases-iterator.rest.ok.0 ∙ c.in-None.ensures.steps.0)) in
    record {
      vars = c.in_ok-vars.vars.items;
      vars_are = c.in_ok-vars.ensures.are;
      made = subst (AreMadeCases (g.O.Order.meaning c.args.order.now) (g.I.Index.live c.args.index.now) c.args.s.now c.args.t.now (orders_of c.in_ok-vars.vars.items)) (sym c.from_vec.ensures) made;
    }
