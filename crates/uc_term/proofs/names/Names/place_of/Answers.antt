use Rattle.std.proofs.Common.{◌∙◌}
use Rattle.uc_term.proofs.NameLists.{place_in_names}
use Rattle.uc_term.proofs.names.Names.place_of.Goals as goal

pub returns-clause-place : goal.returns-clause-place
returns-clause-place c = rw (← c.self.view_is) (c.get_index_of.ensures.index ∙ place_in_names c.args.name.now c.self.inside.list.keys)
