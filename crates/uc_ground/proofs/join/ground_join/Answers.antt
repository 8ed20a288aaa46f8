use Rattle.std.proofs.Common.{◌≡◌, ◌∙◌, ◌<◌, ◌≤◌, ℕ, sym, length, List, arith}
use Rattle.std.proofs.lemmas.Result.{IfOk-weaker}
use Rattle.uc_ground.specs.Joining.{IsAnswer, are_equal}
use Rattle.uc_ground.proofs.Answered.{differ, sides_answer, many_answer, tried_answer}
use Rattle.uc_ground.proofs.Joins.{joins}
use Rattle.uc_ground.proofs.join.ground_join.Goals as goal

few : (n : ℕ) (vars : List ℕ) → n ≡ length vars → n ≤ 5 → length vars ≤ 5
few n vars e h = omega arith

more : (n k : ℕ) → n ≡ k → 5 < n → 5 < k
more n k e h = omega arith

pub returns-then-same-clause-answer : goal.returns-then-same-clause-answer
returns-then-same-clause-answer g c = are_equal (c.same.ensures.0 c.if-same.true)

pub returns-then-same-clause-joined : goal.returns-then-same-clause-joined
returns-then-same-clause-joined g c j over = joins (g.O.Order.meaning c.args.order.now) (g.met.O.Order.laws c.args.order.now) (g.I.Index.live c.args.index.now) over c.args.s.now c.args.t.now _ (are_equal (c.same.ensures.0 c.if-same.true)) j

pub returns-in-Some-clause-answer : goal.returns-in-Some-clause-answer
returns-in-Some-clause-answer g c = sides_answer (g.O.Order.meaning c.args.order.now) (g.I.Index.live c.args.index.now) c.args.s.now c.args.t.now (differ c.same.result c.args.s.now c.args.t.now c.if-same.false c.same.ensures.1) c.in_ok-fact.field-0 c.in-Some.fact c.in-Some.is c.in_ok-fact.ensures

pub returns-in-Some-clause-joined : goal.returns-in-Some-clause-joined
returns-in-Some-clause-joined g c j over = joins (g.O.Order.meaning c.args.order.now) (g.met.O.Order.laws c.args.order.now) (g.I.Index.live c.args.index.now) over c.args.s.now c.args.t.now _ (sides_answer (g.O.Order.meaning c.args.order.now) (g.I.Index.live c.args.index.now) c.args.s.now c.args.t.now (differ c.same.result c.args.s.now c.args.t.now c.if-same.false c.same.ensures.1) c.in_ok-fact.field-0 c.in-Some.fact c.in-Some.is c.in_ok-fact.ensures) j

pub returns-then-len-gt-MOST_VARIABLES-clause-answer : goal.returns-then-len-gt-MOST_VARIABLES-clause-answer
returns-then-len-gt-MOST_VARIABLES-clause-answer g c = many_answer (g.O.Order.meaning c.args.order.now) (g.I.Index.live c.args.index.now) c.args.s.now c.args.t.now (differ c.same.result c.args.s.now c.args.t.now c.if-same.false c.same.ensures.1) c.in_ok-fact.field-0 c.in_default.not-Some c.in_ok-fact.ensures c.in_ok-vars.vars.items c.in_ok-vars.ensures.are c.len-then-len-gt-MOST_VARIABLES.result (c.len-then-len-gt-MOST_VARIABLES.ensures ∙ c.in_ok-vars.vars.ok.0) (more c.len.result c.len-then-len-gt-MOST_VARIABLES.result (c.len.ensures ∙ sym c.len-then-len-gt-MOST_VARIABLES.ensures) c.if-len-gt-MOST_VARIABLES.true)

pub returns-clause-answer : goal.returns-clause-answer
returns-clause-answer g c = tried_answer (g.O.Order.meaning c.args.order.now) (g.I.Index.live c.args.index.now) c.args.s.now c.args.t.now c.join_under_orders.result (differ c.same.result c.args.s.now c.args.t.now c.if-same.false c.same.ensures.1) c.in_ok-fact.field-0 c.in_default.not-Some c.in_ok-fact.ensures c.in_ok-vars.vars.items c.as_slice.result.now c.in_ok-vars.ensures.are c.as_slice.ensures.value (few c.len.result c.in_ok-vars.vars.items (c.len.ensures ∙ c.in_ok-vars.vars.ok.0) c.if-len-gt-MOST_VARIABLES.false) c.join_under_orders.ensures

pub returns-clause-joined : goal.returns-clause-joined
returns-clause-joined g c = IfOk-weaker c.join_under_orders.result (IsAnswer (g.O.Order.meaning c.args.order.now) (g.I.Index.live c.args.index.now) c.args.s.now c.args.t.now) _ (λ answer i j over. joins (g.O.Order.meaning c.args.order.now) (g.met.O.Order.laws c.args.order.now) (g.I.Index.live c.args.index.now) over c.args.s.now c.args.t.now answer i j) (tried_answer (g.O.Order.meaning c.args.order.now) (g.I.Index.live c.args.index.now) c.args.s.now c.args.t.now c.join_under_orders.result (differ c.same.result c.args.s.now c.args.t.now c.if-same.false c.same.ensures.1) c.in_ok-fact.field-0 c.in_default.not-Some c.in_ok-fact.ensures c.in_ok-vars.vars.items c.as_slice.result.now c.in_ok-vars.ensures.are c.as_slice.ensures.value (few c.len.result c.in_ok-vars.vars.items (c.len.ensures ∙ c.in_ok-vars.vars.ok.0) c.if-len-gt-MOST_VARIABLES.false) c.join_under_orders.ensures)
