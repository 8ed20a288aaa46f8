use Rattle.uc_check.proofs.Sound.{says_all}
use Rattle.uc_check.proofs.laws.lines_follow.Goals as goal

pub returns : goal.returns
returns c clauses fresh lines n right k line h at p e = says_all clauses fresh lines n right k h line at p e
