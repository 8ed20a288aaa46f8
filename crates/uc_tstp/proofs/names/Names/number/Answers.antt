use Rattle.std.proofs.Common.{◌∙◌}
use Rattle.uc_tstp.proofs.Named.{position_in_names}
use Rattle.uc_tstp.proofs.names.Names.number.Goals as goal

pub returns-in-Some : goal.returns-in-Some
returns-in-Some c = rw (← c.self.view_is) (c.in-Some.ensures.index ∙ position_in_names c.args.name.now c.self.inside.names.keys)

pub returns-in-None : goal.returns-in-None
returns-in-None c = rw (← c.self.view_is) (c.in-None.ensures.index ∙ position_in_names c.args.name.now c.self.inside.names.keys)
