use Rattle.std.proofs.Common.{◌≡◌, ℕ, ◌+◌, ◌-◌, subst, arith}
use Rattle.uc_proof.specs.Parts.{facts_from}
use Rattle.uc_proof.specs.Making.{IsAmong}
use Rattle.uc_proof.proofs.Adding.{GoesOn, begins, goes_on, ends, facts_at, facts_end}
use Rattle.uc_proof.proofs.plan.push_facts.Goals as goal

pub loop-number-init : goal.loop-number-init
loop-number-init c =
    let n = c.args.count in
    let old = c.args.plan.now.items in
    let q : n ≡ n - 0 = omega arith in
    subst (λ (m : ℕ). GoesOn (λ p. IsAmong p c.args.needed.now) (facts_from 0 n) old (facts_from 0 m) old) q (begins (λ p. IsAmong p c.args.needed.now) (facts_from 0 n) old)

pub loop-number-preserved : goal.loop-number-preserved
loop-number-preserved c =
    let n = c.args.count in
    let i = c.loop-number.number in
    goes_on (λ p. IsAmong p c.args.needed.now) (facts_from 0 n) c.args.plan.now.items (facts_from i (n - i)) _ (facts_from (i + 1) (n - (i + 1))) c.loop-number.plan.items c.push_needed.new.plan.items c.loop-number.invariant
    (facts_at i n c.loop-number-test.true) c.in_ok-push_needed.ensures

pub returns : goal.returns
returns c =
    let n = c.args.count in
    let i = c.loop-number.number in
    ends (λ p. IsAmong p c.args.needed.now) (facts_from 0 n) c.args.plan.now.items (facts_from i (n - i)) c.loop-number.plan.items c.loop-number.invariant (facts_end i n c.loop-number-test.false)
