use Rattle.std.proofs.Common.{◌+◌, ◌-◌, ◌/◌, arith}
use Rattle.std.proofs.lemmas.Option.{slice_get-get_or}
use Rattle.uc_disc.proofs.Telling.{below_more, not_below_more}
use Rattle.uc_disc.proofs.seats.first_not_below.Goals as goal

pub loop-low-preserved-then-facts-middle : goal.loop-low-preserved-then-facts-middle
loop-low-preserved-then-facts-middle c = (omega (arith, c.loop-low-test.true), c.loop-low.invariant.1, below_more c.args.facts.now (c.loop-low.low + (c.loop-low.high - c.loop-low.low) / 2) c.args.fact _ c.requires.rising (slice_get-get_or c.args.facts.now (c.loop-low.low + (c.loop-low.high - c.loop-low.low) / 2) c.index-facts-middle.result (omega (arith, c.loop-low-test.true, c.loop-low.invariant.1))) c.if-facts-middle.true, c.loop-low.invariant.3)

pub loop-low-preserved : goal.loop-low-preserved
loop-low-preserved c = (omega arith, omega (arith, c.loop-low-test.true, c.loop-low.invariant.1), c.loop-low.invariant.2, not_below_more c.args.facts.now (c.loop-low.low + (c.loop-low.high - c.loop-low.low) / 2) c.args.fact _ c.requires.rising (slice_get-get_or c.args.facts.now (c.loop-low.low + (c.loop-low.high - c.loop-low.low) / 2) c.index-facts-middle.result (omega (arith, c.loop-low-test.true, c.loop-low.invariant.1))) c.if-facts-middle.false)
