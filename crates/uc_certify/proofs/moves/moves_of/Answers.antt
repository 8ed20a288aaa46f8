use Rattle.std.proofs.Common.{List, sym, subst}
use Rattle.uc_fact.specs.declared.chain.Step.{Step}
use Rattle.uc_certificate.specs.declared.certificate.Move.{Move}
use Rattle.uc_certify.specs.Making.{AreMovesOf}
use Rattle.uc_rewrite.proofs.Replays.{step_at, nothing_left}
use Rattle.uc_certify.proofs.MadeMoves.{turning_begins, by_here, inside_here, turning_on, turning_ends}
use Rattle.uc_certify.proofs.moves.moves_of.Goals as goal

pub loop-step-init : goal.loop-step-init
loop-step-init c = turning_begins c.args.chain.now c.as_slice-steps.result.now c.new-moves.result.items c.requires c.as_slice-steps.ensures c.new-moves.ensures.items

pub move_of-requires-clause-by : goal.move_of-requires-clause-by
move_of-requires-clause-by c =
    by_here c.args.chain.now.start c.as_slice-steps.result.now c.loop-step.before.now c.loop-step.step-index c.loop-step.moves.items c.step-item.result c.loop-step.invariant
    (step_at c.as_slice-steps.result.now c.loop-step.step-index c.step-item.result c.loop-step-test.true c.step-item.is)

pub move_of-requires-clause-inside : goal.move_of-requires-clause-inside
move_of-requires-clause-inside c =
    inside_here c.args.chain.now.start c.as_slice-steps.result.now c.loop-step.before.now c.loop-step.step-index c.loop-step.moves.items c.step-item.result c.loop-step.invariant
    (step_at c.as_slice-steps.result.now c.loop-step.step-index c.step-item.result c.loop-step-test.true c.step-item.is)

pub loop-step-preserved : goal.loop-step-preserved
loop-step-preserved c =
    turning_on c.args.chain.now.start c.as_slice-steps.result.now c.loop-step.before.now c.loop-step.step-index c.loop-step.moves.items c.step-item.result c.loop-step.invariant
    (step_at c.as_slice-steps.result.now c.loop-step.step-index c.step-item.result c.loop-step-test.true c.step-item.is) c.in_ok-move_of.field-0 c.push.new.self.items c.in_ok-move_of.ensures c.in_ok-push.ensures.items

pub returns : goal.returns
returns c =
    let made = turning_ends c.args.chain.now.start c.as_slice-steps.result.now c.loop-step.before.now c.loop-step.step-index c.loop-step.moves.items c.loop-step.invariant
    (nothing_left c.as_slice-steps.result.now c.loop-step.step-index c.loop-step-test.false) in
    subst (λ (ms : List Move). AreMovesOf c.args.chain.now.start c.args.chain.now.steps ms) (sym c.from_vec.ensures)
    (subst (λ (ss : List Step). AreMovesOf c.args.chain.now.start ss c.loop-step.moves.items) c.as_slice-steps.ensures made)
