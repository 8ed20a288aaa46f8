use Rattle.uc_pair.proofs.Walking.{at_start}
use Rattle.uc_pair.proofs.fitting.fits.Goals as goal

pub loop-p-init : goal.loop-p-init
loop-p-init c = at_start c.args.s.now c.args.t.now c.requires.whole_s c.requires.whole_t
