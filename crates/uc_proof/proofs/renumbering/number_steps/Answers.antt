use Rattle.std.proofs.Common.{◌∙◌}
use Rattle.uc_proof.proofs.Naming.{steps_begin, steps_on, steps_names, steps_list}
use Rattle.uc_proof.proofs.renumbering.number_steps.Goals as goal

pub loop-step-init : goal.loop-step-init
loop-step-init c = steps_begin c.args.steps.now c.args.names.now.keys c.new-numbered.result.items c.new-numbered.ensures.items

pub loop-step-preserved : goal.loop-step-preserved
loop-step-preserved c =
    steps_on c.args.steps.now c.args.names.now.keys c.loop-step.names.keys c.number_step.new.names.keys c.loop-step.step-index c.loop-step.numbered.items c.push.new.self.items c.step-item.result c.in_ok-number_step.field-0 _ c.loop-step-test.true c.step-item.is c.loop-step.invariant
    c.in_ok-number_step.ensures.names c.in_ok-number_step.ensures.numbered c.in_ok-push.ensures.items

pub returns-clause-names : goal.returns-clause-names
returns-clause-names c = steps_names c.args.steps.now c.args.names.now.keys c.loop-step.names.keys c.loop-step.step-index c.loop-step.numbered.items c.loop-step-test.false c.loop-step.invariant

pub returns-clause-numbered : goal.returns-clause-numbered
returns-clause-numbered c = λ rest. c.from_vec.ensures ∙ steps_list c.args.steps.now c.args.names.now.keys c.loop-step.names.keys c.loop-step.step-index c.loop-step.numbered.items c.loop-step-test.false c.loop-step.invariant rest
