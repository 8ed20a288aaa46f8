use Rattle.uc_top.proofs.WithinLimits.{weight_within}
use Rattle.uc_top.proofs.ProveOnce.{chosen_fits}
use Rattle.uc_top.proofs.laws.chosen_order_fits.Goals as goal

pub returns : goal.returns
returns c = λ files words command name s a x reads. (let within = weight_within words command reads in chosen_fits x.table command x.problem x.encoded x.spec within.0 within.1 x.holds.agrees x.encodes x.chosen)
