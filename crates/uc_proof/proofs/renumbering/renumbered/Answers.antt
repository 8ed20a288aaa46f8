use Rattle.std.proofs.Common.{◌++◌, List, ℕ, refl, ap, ◌∙◌}
use Rattle.uc_term.specs.Variables.{variables, firsts_after}
use Rattle.uc_proof.proofs.Naming.{line_numbered}
use Rattle.uc_proof.proofs.renumbering.renumbered.Goals as goal

pub returns : goal.returns
returns c =
    line_numbered c.args.line (record { name = c.args.line.name; source = c.in_ok-number_source.field-0; left = c.in_ok-number.field-0; right = c.in_ok-number-2.field-0; positive = c.args.line.positive })
    c.number.new.names.keys c.number-2.new.names.keys c.number_source.new.names.keys (c.in_ok-number.ensures.names ∙ ap (λ (l : List ℕ). l ++ firsts_after l (variables c.args.line.left)) c.new-names.ensures.empty) c.in_ok-number.ensures.numbered
    c.in_ok-number-2.ensures.names c.in_ok-number-2.ensures.numbered c.in_ok-number_source.ensures.names c.in_ok-number_source.ensures.numbered refl refl
