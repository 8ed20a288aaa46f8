use Rattle.std.proofs.Common.{◌≡◌, ℕ, ◌+◌, ◌-◌, ap, IsTrue, nat_eq, arith}
use Rattle.std.proofs.lemmas.Bool.Decides.{nat_tests}
use Rattle.bench_orders.proofs.Whole.{Closes, closes_more, closes_end}
use Rattle.bench_orders.proofs.deep.is_whole.Goals as goal

none_of : (n : ℕ) → IsTrue (nat_eq n 0) → n ≡ 0
none_of n t = grind (arith, nat_tests)

pub loop-at-preserved : goal.loop-at-preserved
loop-at-preserved c = closes_more c.args.list.now c.loop-at.at c.loop-at.pending _ _ (Closes 1 c.args.list.now) c.loop-at-test.true (omega (arith, c.if-pending-eq0.false)) (ap (λ n. c.loop-at.pending - 1 + n) c.arguments.ensures.value) c.loop-at.invariant

pub returns : goal.returns
returns c = λ t. closes_end c.args.list.now c.loop-at.at c.loop-at.pending (omega (arith, c.loop-at-test.false)) (none_of c.loop-at.pending t) c.loop-at.invariant
