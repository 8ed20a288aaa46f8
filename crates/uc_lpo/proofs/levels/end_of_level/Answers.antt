use Rattle.uc_lpo.proofs.Ends.{some_left, over_one}
use Rattle.uc_lpo.proofs.levels.end_of_level.Goals as goal

pub loop-left-preserved : goal.loop-left-preserved
loop-left-preserved c =
    let o = c.loop-left.invariant in
    let inside = some_left c.args.list.now c.loop-left.end c.loop-left.left c.loop-left-test.true o.enough o.within in
    over_one c.args.list.now c.args.to c.args.count c.loop-left.end c.loop-left.left c.end_of-end.result c.requires.whole c.loop-left-test.true inside c.end_of-end.ensures.end o
