use Rattle.std.proofs.Common.{◌≡◌, ◌∷◌, ◌∙◌, ap, sym}
use Rattle.std.proofs.lemmas.Result.{IfOk-weaker}
use Rattle.uc_order.specs.VarOrders.{orders_of}
use Rattle.uc_ground.specs.Orders.{first_of, others_of}
use Rattle.uc_ground.specs.Joining.{IsTriedUnder}
use Rattle.uc_ground.proofs.Answered.{first_differs, first_agrees}
use Rattle.uc_ground.proofs.Tried.{known_left, known_right}
use Rattle.uc_ground.proofs.Orders.{split, first_is_in}
use Rattle.uc_ground.proofs.join.join_under_orders.Goals as goal

pub different_ends-requires-clause-s_known : goal.different_ends-requires-clause-s_known
different_ends-requires-clause-s_known g c = rw c.in_ok-first.ensures (known_left c.args.s.now c.args.t.now c.args.vars.now c.requires (first_of c.args.vars.now) (first_is_in c.args.vars.now))

pub different_ends-requires-clause-t_known : goal.different_ends-requires-clause-t_known
different_ends-requires-clause-t_known g c = rw c.in_ok-first.ensures (known_right c.args.s.now c.args.t.now c.args.vars.now c.requires (first_of c.args.vars.now) (first_is_in c.args.vars.now))

pub returns-in-Some : goal.returns-in-Some
returns-in-Some g c =
    let e : orders_of c.args.vars.now ≡ c.in_ok-first.first ∷ others_of c.args.vars.now = split c.args.vars.now ∙ ap (λ z. z ∷ others_of c.args.vars.now) (sym c.in_ok-first.ensures) in
    first_differs (g.O.Order.meaning c.args.order.now) (g.I.Index.live c.args.index.now) c.args.s.now c.args.t.now c.in_ok-first.first (orders_of c.args.vars.now) (others_of c.args.vars.now) e c.in_ok-left.field-0 c.in-Some.left c.in-Some.right c.in-Some.is c.in_ok-left.ensures

pub returns-in-None : goal.returns-in-None
returns-in-None g c =
    let e : orders_of c.args.vars.now ≡ c.in_ok-first.first ∷ others_of c.args.vars.now = split c.args.vars.now ∙ ap (λ z. z ∷ others_of c.args.vars.now) (sym c.in_ok-first.ensures) in
    IfOk-weaker c.join_under_others.result (IsTriedUnder (g.O.Order.meaning c.args.order.now) (g.I.Index.live c.args.index.now) c.args.s.now c.args.t.now (others_of c.args.vars.now)) (IsTriedUnder (g.O.Order.meaning c.args.order.now) (g.I.Index.live c.args.index.now) c.args.s.now c.args.t.now (orders_of c.args.vars.now)) (λ answer i. first_agrees (g.O.Order.meaning c.args.order.now) (g.I.Index.live c.args.index.now) c.args.s.now c.args.t.now c.in_ok-first.first (orders_of c.args.vars.now) (others_of c.args.vars.now) e c.in_ok-left.field-0 (λ ends h. absurd (let none = c.in-None.is in cc)) c.in_ok-left.ensures answer i) c.join_under_others.ensures
