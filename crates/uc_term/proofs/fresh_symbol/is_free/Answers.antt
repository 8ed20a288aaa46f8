use Rattle.uc_term.proofs.TakenNames.{tells}
use Rattle.uc_term.proofs.fresh_symbol.is_free.Goals as goal

pub returns : goal.returns
returns c table fs a = tells table fs c.args.names.now c.args.name.now c.place_of.result c.is_none.result a c.place_of.ensures.place c.is_none.ensures
