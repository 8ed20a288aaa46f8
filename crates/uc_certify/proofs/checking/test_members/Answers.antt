use Rattle.std.proofs.Common.{◌≡◌, ◌<◌, length, subst, arith}
use Rattle.uc_certify.specs.declared.certified.Certified.TheVariants.{Join as WrongJoin}
use Rattle.uc_certify.specs.Certifying.{AreTested}
use Rattle.uc_certify.proofs.Lists.{of, not_of}
use Rattle.uc_certify.proofs.JoinsTested.{tests_none, large_at, missing_at, wrong_at, right_at, more_joins, all_tests}
use Rattle.uc_certify.proofs.checking.test_members.Goals as goal

pub loop-n-init : goal.loop-n-init
loop-n-init g c = (tests_none (g.O.Order.meaning c.args.order.now) c.args.rules.now.facts.now c.args.axioms.now c.args.members.now c.args.joins.now, omega arith)

pub returns-in-Some : goal.returns-in-Some
returns-in-Some g c = large_at (g.O.Order.meaning c.args.order.now) c.args.rules.now.facts.now c.args.axioms.now c.args.members.now c.args.joins.now c.loop-n.n _ c.loop-n.invariant.0 c.loop-n-test.true c.in-Some.overlap c.in-Some.ensures

pub returns-in_default-get : goal.returns-in_default-get
returns-in_default-get g c = missing_at (g.O.Order.meaning c.args.order.now) c.args.rules.now.facts.now c.args.axioms.now c.args.members.now c.args.joins.now c.loop-n.n _ c.loop-n.invariant.0 c.loop-n-test.true c.in_default.ensures c.in_default-get.ensures.lookup.3

pub returns-then-not-branch : goal.returns-then-not-branch
returns-then-not-branch g c = wrong_at (g.O.Order.meaning c.args.order.now) c.args.rules.now.facts.now c.args.axioms.now c.args.members.now c.args.joins.now c.loop-n.n _ c.loop-n.invariant.0 c.loop-n-test.true c.in-Some-get.join.now c.in-Some-get.ensures.lookup.3.0 c.in-Some-get.ensures.lookup.1 c.in_default.ensures (not_of c.in_ok-is_right_join.field-0 c.if-not-branch.true c.in_ok-is_right_join.ensures)

pub loop-n-preserved : goal.loop-n-preserved
loop-n-preserved g c =
    let inside : c.loop-n.n < length c.args.joins.now = c.in-Some-get.ensures.lookup.3.0 in
    (right_at (g.O.Order.meaning c.args.order.now) c.args.rules.now.facts.now c.args.axioms.now c.args.members.now c.args.joins.now c.loop-n.n _ c.loop-n.invariant.0 c.loop-n-test.true c.in-Some-get.join.now inside c.in-Some-get.ensures.lookup.1 c.in_default.ensures (of c.in_ok-is_right_join.field-0 c.if-not-branch.false c.in_ok-is_right_join.ensures), omega (arith, inside))

pub returns-then-members-joins : goal.returns-then-members-joins
returns-then-members-joins g c =
    let all : c.loop-n.n ≡ length c.args.members.now = omega arith in
    let more : c.loop-n.n < length c.args.joins.now = omega (arith, all, c.if-members-joins.true) in
    subst (λ k. AreTested (g.O.Order.meaning c.args.order.now) c.args.rules.now.facts.now c.args.axioms.now c.args.members.now c.args.joins.now 0 (WrongJoin k)) all (more_joins (g.O.Order.meaning c.args.order.now) c.args.rules.now.facts.now c.args.axioms.now c.args.members.now c.args.joins.now c.loop-n.n c.loop-n.invariant.0 all more)

pub returns : goal.returns
returns g c =
    let all : c.loop-n.n ≡ length c.args.members.now = omega arith in
    all_tests (g.O.Order.meaning c.args.order.now) c.args.rules.now.facts.now c.args.axioms.now c.args.members.now c.args.joins.now c.loop-n.n c.loop-n.invariant.0 (omega (arith, all)) (omega (arith, all, c.if-members-joins.false))
