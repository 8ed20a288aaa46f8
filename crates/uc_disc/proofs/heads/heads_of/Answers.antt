use Rattle.uc_disc.specs.declared.place.Label.TheVariants.{Variable}
use Rattle.uc_disc.proofs.Passing.{heads_end, next_heads}
use Rattle.uc_disc.proofs.heads.heads_of.Goals as goal

pub loop-i-preserved : goal.loop-i-preserved
loop-i-preserved c = next_heads c.args.places.now c.requires.supported c.requires.marks c.loop-i.i c.loop-i-test.true (record { label = Variable 0; depth = 0; skip = 0; least = 0 }) c.loop-i.heads.items c.as_slice.result.now c.push.new.self.items c.in-Some.symbol c.loop-i.invariant c.as_slice.ensures.value c.in-Some.ensures c.in_ok-push-in-Some.ensures.items

pub returns : goal.returns
returns c = heads_end c.args.places.now c.loop-i.heads.items c.loop-i.i c.loop-i.invariant c.loop-i-test.false
