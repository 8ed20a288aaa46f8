use Rattle.std.proofs.Common.{◌≡◌, ◌+◌, ◌-◌, ◌<◌, ◌++◌, ℕ, List, length, take, sym, ap, ◌∙◌, subst, arith, append-nil}
use Rattle.uc_fact.specs.declared.chain.Step.{Step}
use Rattle.uc_fact.specs.Chains.{steps_back}
use Rattle.uc_proof.proofs.Writing.{pushed_back}
use Rattle.uc_term.proofs.Terms.{take_of_length-le}
use Rattle.uc_proof.proofs.conclusion.push_back.Goals as goal

pub loop-number-init : goal.loop-number-init
loop-number-init c = (
  omega arith,
  ap (λ (l : List Step). c.args.steps.now.items ++ steps_back c.args.start.now l) (take_of_length-le c.args.forth.now (length c.args.forth.now) (omega arith)),
)

pub loop-number-preserved : goal.loop-number-preserved
loop-number-preserved c =
    let k = c.loop-number.number - 1 in
    let few = c.loop-number.invariant.0 in
    let some = c.loop-number-test.true in
    let fits : k < length c.args.forth.now = omega arith in
    let up : c.loop-number.number ≡ k + 1 = omega arith in (
      omega arith,
      pushed_back c.args.start.now c.args.forth.now k c.index-forth-number.result c.index-forth-number.result (c.args.steps.now.items ++ steps_back c.args.start.now c.args.forth.now) c.loop-number.steps.items c.push.new.self.items c.term_before-before.result.now c.in_ok-back.field-0 fits c.index-forth-number.is
          (subst (λ (n : ℕ). c.loop-number.steps.items ++ steps_back c.args.start.now (take n c.args.forth.now) ≡ c.args.steps.now.items ++ steps_back c.args.start.now c.args.forth.now) up c.loop-number.invariant.1)
          c.term_before-before.ensures c.in_ok-back.ensures c.in_ok-push.ensures.items,
    )

pub returns : goal.returns
returns c =
    let none = c.loop-number-test.false in
    let e : c.loop-number.number ≡ 0 = omega arith in
    sym (append-nil c.loop-number.steps.items) ∙ subst (λ (n : ℕ). c.loop-number.steps.items ++ steps_back c.args.start.now (take n c.args.forth.now) ≡ c.args.steps.now.items ++ steps_back c.args.start.now c.args.forth.now) e c.loop-number.invariant.1
