use Rattle.std.proofs.Common.{arith}
use Rattle.uc_disc.specs.declared.place.Label.TheVariants.{Variable}
use Rattle.uc_disc.proofs.Passing.{root_first, skip_ahead, next_root}
use Rattle.uc_disc.proofs.heads.first_head.Goals as goal

pub loop-i-init : goal.loop-i-init
loop-i-init c = (omega arith, root_first c.args.places.now c.requires.supported)

pub loop-i-smaller : goal.loop-i-smaller
loop-i-smaller c = omega (arith, c.loop-i-test.true, skip_ahead c.args.places.now c.requires.supported c.requires.marks c.loop-i.i c.loop-i-test.true (record { label = Variable 0; depth = 0; skip = 0; least = 0 }))

pub loop-i-preserved : goal.loop-i-preserved
loop-i-preserved c = ((skip_ahead c.args.places.now c.requires.supported c.requires.marks c.loop-i.i c.loop-i-test.true (record { label = Variable 0; depth = 0; skip = 0; least = 0 })).1, next_root c.args.places.now c.requires.supported c.requires.marks c.loop-i.i c.loop-i-test.true (record { label = Variable 0; depth = 0; skip = 0; least = 0 }) c.loop-i.invariant.1)
