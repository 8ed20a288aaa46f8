use Rattle.std.proofs.Common.{◌+◌, map, drop, ap}
use Rattle.std.proofs.lemmas.List.{drop_more}
use Rattle.uc_proof.specs.declared.part.Part.TheVariants as part
use Rattle.uc_proof.specs.Making.{IsAmong}
use Rattle.uc_proof.proofs.Among.{nothing_behind}
use Rattle.uc_proof.proofs.Adding.{begins, goes_on, ends, denials_at}
use Rattle.uc_proof.proofs.plan.push_denials.Goals as goal

pub loop-clause-init : goal.loop-clause-init
loop-clause-init c = begins (λ p. IsAmong p c.args.needed.now) (map part.Denial c.args.goals.now) c.args.plan.now.items

pub loop-clause-preserved : goal.loop-clause-preserved
loop-clause-preserved c =
    let cs = c.args.goals.now in
    let i = c.loop-clause.clause-index in
    goes_on (λ p. IsAmong p c.args.needed.now) (map part.Denial cs) c.args.plan.now.items (map part.Denial (drop i cs)) _ (map part.Denial (drop (i + 1) cs)) c.loop-clause.plan.items c.push_needed.new.plan.items c.loop-clause.invariant
    (denials_at cs i _ (drop_more cs i _ c.loop-clause-test.true)) c.in_ok-push_needed.ensures

pub returns : goal.returns
returns c =
    let cs = c.args.goals.now in
    let i = c.loop-clause.clause-index in
    ends (λ p. IsAmong p c.args.needed.now) (map part.Denial cs) c.args.plan.now.items (map part.Denial (drop i cs)) c.loop-clause.plan.items c.loop-clause.invariant (ap (map part.Denial) (nothing_behind cs i c.loop-clause-test.false))
