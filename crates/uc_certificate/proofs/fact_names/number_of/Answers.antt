use Rattle.std.proofs.Common.{◌∙◌}
use Rattle.uc_tstp.proofs.Named.{position_in_names}
use Rattle.uc_certificate.proofs.fact_names.number_of.Goals as goal

pub returns-in-Some : goal.returns-in-Some
returns-in-Some c = c.in-Some.ensures.index ∙ position_in_names c.args.name.now c.args.names.now.keys

pub returns-in-None : goal.returns-in-None
returns-in-None c = c.in-None.ensures.index ∙ position_in_names c.args.name.now c.args.names.now.keys
