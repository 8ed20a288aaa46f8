use Rattle.uc_unify.proofs.Crossing.{at_start, at_end}
use Rattle.uc_unify.proofs.walking.walk.Goals as goal

pub loop-p-init : goal.loop-p-init
loop-p-init c = rw c.clear.ensures (at_start c.args.s.now c.args.t.now c.requires.whole_s c.requires.whole_t)

pub returns : goal.returns
returns c = at_end c.args.s.now c.args.t.now c.requires.whole_s c.requires.whole_t c.loop-p.p c.loop-p.q c.loop-p.subst c.loop-p-test.false c.loop-p.invariant
