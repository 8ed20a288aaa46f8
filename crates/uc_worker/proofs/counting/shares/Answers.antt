use Rattle.std.proofs.Common.{◌≡◌, ap, ◌∙◌, sum, arith}
use Rattle.std.proofs.lemmas.Bool.Decides.{nat_tests}
use Rattle.uc_worker.specs.Commits.{shares_of}
use Rattle.uc_worker.proofs.Totals.{shares_sum}
use Rattle.uc_worker.proofs.counting.shares.Goals as goal

pub returns-clause-sum : goal.returns-clause-sum
returns-clause-sum c = λ first.
    let e : c.loop-worker.worker ≡ c.args.workers = (let a = c.loop-worker.auto.worker-end in let b = c.loop-worker-test.false in grind (arith, nat_tests)) in
    ap sum c.loop-worker.invariant ∙ ap (λ n. sum (shares_of n c.args.history.now)) e ∙ shares_sum c.args.workers c.args.history.now first
