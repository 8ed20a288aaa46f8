use Rattle.uc_disc.proofs.Listed.{built_next, built_all}
use Rattle.uc_disc.proofs.build.places_of.Goals as goal

pub loop-spelled-preserved : goal.loop-spelled-preserved
loop-spelled-preserved c = λ rules all. built_next rules c.args.list.now all c.loop-spelled.spelled-index c.spelled-item.result c.loop-spelled-test.true c.spelled-item.is c.loop-spelled.places.items c.add_places.new.places.items c.loop-spelled.before.now c.as_slice-labels.result.now c.as_slice-labels.ensures.value (c.loop-spelled.invariant rules all) c.in_ok-add_places.ensures

pub returns : goal.returns
returns c = λ rules all. built_all rules c.args.list.now c.loop-spelled.spelled-index c.loop-spelled.places.items c.loop-spelled-test.false (c.loop-spelled.invariant rules all).0
