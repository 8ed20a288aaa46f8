use Rattle.std.proofs.Common.{◌∙◌}
use Rattle.uc_fof.proofs.BoundNames.{any_of_names}
use Rattle.uc_fof.proofs.bound.Bound.contains.Goals as goal

pub returns : goal.returns
returns c = rw (← c.self.view_is) (c.contains.ensures ∙ any_of_names c.args.name.now c.self.inside.names.keys)
