use Rattle.uc_table.proofs.SearchOnce.{searches_once}
use Rattle.uc_table.proofs.laws.one_search.Goals as goal

pub returns : goal.returns
returns c = searches_once
