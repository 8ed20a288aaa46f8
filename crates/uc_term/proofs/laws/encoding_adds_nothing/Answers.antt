use Rattle.uc_term.proofs.Encoding.{none_added, weaker}
use Rattle.uc_term.proofs.laws.encoding_adds_nothing.Goals as goal

pub returns : goal.returns
returns c m es gs are el gl u v lu lv = (none_added m es gs are el gl u v lu lv, weaker m es gs are el gl)
