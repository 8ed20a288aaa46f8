use Rattle.std.proofs.Common.{◌≡◌, ◌∙◌, sym, ap}
use Rattle.uc_order.specs.VarOrders.{orders_of}
use Rattle.uc_certify.specs.Testing.{HaveOrders}
use Rattle.uc_certify.proofs.EndsTested.{too_many, other_orders, case_left, case_right}
use Rattle.uc_certify.proofs.Lists.{never, of, not_of}
use Rattle.uc_certify.proofs.ends.are_right_cases.Goals as goal

pub returns-then-len-gt-MOST_VARIABLES : goal.returns-then-len-gt-MOST_VARIABLES
returns-then-len-gt-MOST_VARIABLES g c = never (too_many (g.O.Order.meaning c.args.order.now) c.args.rules.now.facts.now c.args.s.now c.args.t.now c.in_ok-vars.vars.items c.in_ok-vars.ensures.are c.args.cases.now c.len.result (c.len.ensures ∙ c.in_ok-vars.vars.ok.0) c.if-len-gt-MOST_VARIABLES.true)

pub returns-then-not-have_orders : goal.returns-then-not-have_orders
returns-then-not-have_orders g c =
    let all : c.as_slice-2.result.now ≡ orders_of c.in_ok-vars.vars.items = c.as_slice-2.ensures.value ∙ c.in_ok-orders.ensures ∙ ap orders_of c.as_slice.ensures.value in
    never (other_orders (g.O.Order.meaning c.args.order.now) c.args.rules.now.facts.now c.args.s.now c.args.t.now c.in_ok-vars.vars.items c.in_ok-vars.ensures.are c.args.cases.now (λ h. not_of c.have_orders.result c.if-not-have_orders.true c.have_orders.ensures (h ∙ sym all)))

pub is_right_case-requires-clause-s_known : goal.is_right_case-requires-clause-s_known
is_right_case-requires-clause-s_known g c =
    let all : c.as_slice-2.result.now ≡ orders_of c.in_ok-vars.vars.items = c.as_slice-2.ensures.value ∙ c.in_ok-orders.ensures ∙ ap orders_of c.as_slice.ensures.value in
    let orders : HaveOrders c.args.cases.now (orders_of c.in_ok-vars.vars.items) = of c.have_orders.result c.if-not-have_orders.false c.have_orders.ensures ∙ all in
    case_left c.args.s.now c.args.t.now c.in_ok-vars.vars.items c.in_ok-vars.ensures.are c.args.cases.now orders c.loop-case.case-index c.case-item.result c.loop-case-test.true c.case-item.is

pub is_right_case-requires-clause-t_known : goal.is_right_case-requires-clause-t_known
is_right_case-requires-clause-t_known g c =
    let all : c.as_slice-2.result.now ≡ orders_of c.in_ok-vars.vars.items = c.as_slice-2.ensures.value ∙ c.in_ok-orders.ensures ∙ ap orders_of c.as_slice.ensures.value in
    let orders : HaveOrders c.args.cases.now (orders_of c.in_ok-vars.vars.items) = of c.have_orders.result c.if-not-have_orders.false c.have_orders.ensures ∙ all in
    case_right c.args.s.now c.args.t.now c.in_ok-vars.vars.items c.in_ok-vars.ensures.are c.args.cases.now orders c.loop-case.case-index c.case-item.result c.loop-case-test.true c.case-item.is
