use Rattle.uc_top.proofs.SystemsAlike.{same_by_certificate, same_by_search}
use Rattle.uc_top.proofs.laws.one_system.Goals as goal

pub returns : goal.returns
returns c = record { certificate = same_by_certificate; search = same_by_search }
