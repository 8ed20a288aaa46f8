use Rattle.std.proofs.Common.{◌++◌, List, map, ap, ◌∙◌, ℕ}
use Rattle.uc_term.specs.Variables.{firsts_after}
use Rattle.uc_check.specs.declared.proof.LineStep.{LineStep}
use Rattle.uc_tstp.specs.Printable.{renumbered_step}
use Rattle.uc_proof.specs.Making.{step_variables}
use Rattle.uc_proof.proofs.Naming.{chain_names, chain_numbered}
use Rattle.uc_proof.proofs.renumbering.number_source.Goals as goal

pub returns-in_ok-number_steps-in-Chain-clause-names : goal.returns-in_ok-number_steps-in-Chain-clause-names
returns-in_ok-number_steps-in-Chain-clause-names c =
    chain_names c.args.names.now.keys c.number.new.names.keys c.number_steps.new.names.keys c.args.source c.in-Chain.start c.in-Chain.steps c.in-Chain.parents c.in-Chain.is
    (c.in_ok-number_steps-in-Chain.ensures.names ∙ ap (λ (ss : List LineStep). c.number.new.names.keys ++ firsts_after c.number.new.names.keys (step_variables ss)) c.as_slice.ensures) c.in_ok-number-in-Chain.ensures.names

pub returns-in_ok-number_steps-in-Chain-clause-numbered : goal.returns-in_ok-number_steps-in-Chain-clause-numbered
returns-in_ok-number_steps-in-Chain-clause-numbered c =
    chain_numbered c.args.names.now.keys c.number.new.names.keys c.number_steps.new.names.keys c.args.source c.in-Chain.start c.in-Chain.steps c.in-Chain.parents c.in-Chain.is
    (c.in_ok-number_steps-in-Chain.ensures.names ∙ ap (λ (ss : List LineStep). c.number.new.names.keys ++ firsts_after c.number.new.names.keys (step_variables ss)) c.as_slice.ensures)
    c.in_ok-number-in-Chain.field-0 c.in_ok-number_steps-in-Chain.field-0 c.in_ok-number-in-Chain.ensures.numbered (λ (rest : List ℕ). c.in_ok-number_steps-in-Chain.ensures.numbered rest ∙ ap (map (renumbered_step (c.number_steps.new.names.keys ++ rest))) c.as_slice.ensures)
