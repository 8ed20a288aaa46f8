use Rattle.uc_unify.proofs.Sizing.{variable_size}
use Rattle.uc_unify.proofs.sizes.size_at.Goals as goal

pub returns-in-Var : goal.returns-in-Var
returns-in-Var c = variable_size c.args.nodes.now c.args.classes.now c.args.sizes.now c.args.place c.in-Var.field-0 _ c.requires.within c.requires.stands c.in-Var.is
