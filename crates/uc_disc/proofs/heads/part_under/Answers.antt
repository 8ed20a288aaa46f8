use Rattle.std.proofs.Common.{refl}
use Rattle.uc_disc.specs.Heads.{found, not_found}
use Rattle.uc_disc.proofs.heads.part_under.Goals as goal

pub returns-in-Some : goal.returns-in-Some
returns-in-Some c = found c.in-Some.k c.in-Some.ensures c.start_at.ensures c.start_at-in-Some.ensures

pub returns-in-None : goal.returns-in-None
returns-in-None c = not_found c.in-None.ensures refl refl
