use Rattle.std.proofs.Common.{◌≡◌, ◌↔◌, ◌⊎◌, subst}
use Rattle.uc_rewrite.proofs.Replays.{step_at, nothing_left}
use Rattle.uc_proof.specs.declared.part.Part.{Part}
use Rattle.uc_proof.specs.Making.{IsAmong}
use Rattle.uc_proof.proofs.Among.{one_more, none_left, named_split, named_none}
use Rattle.uc_proof.proofs.needed.add_named.Goals as goal

pub loop-step-preserved : goal.loop-step-preserved
loop-step-preserved c = λ p.
    one_more (c.loop-step.invariant p)
    (subst (λ (q : Part). IsAmong p c.add.new.self ↔ ((q ≡ p) ⊎ IsAmong p c.loop-step.needed)) c.part_of.ensures (c.in_ok-add.ensures p))
    (named_split c.args.steps.now c.loop-step.step-index c.step-item.result p (step_at c.args.steps.now c.loop-step.step-index c.step-item.result c.loop-step-test.true c.step-item.is))

pub returns : goal.returns
returns c = λ p. none_left (c.loop-step.invariant p) (named_none c.args.steps.now c.loop-step.step-index p (nothing_left c.args.steps.now c.loop-step.step-index c.loop-step-test.false))
