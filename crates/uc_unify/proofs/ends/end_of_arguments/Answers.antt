use Rattle.uc_unify.proofs.Ending.{ending_start, ending_more, ending_end, end_within}
use Rattle.uc_unify.proofs.ends.end_of_arguments.Goals as goal

pub loop-init : goal.loop-init
loop-init c = ending_start c.args.nodes.now c.requires.whole c.args.place c.args.count c.requires.symbol

pub loop-preserved : goal.loop-preserved
loop-preserved c =
    let inside = end_within c.args.nodes.now c.requires.whole c.args.place c.args.count c.requires.symbol c.loop.counter c.loop.end c.loop-test.true c.loop.invariant in
    ending_more c.args.nodes.now c.requires.whole c.args.place c.args.count c.requires.symbol c.loop.counter c.loop.end c.loop-test.true c.loop.invariant _ (c.requires.behind.ends_are c.loop.end c.loop.invariant.behind inside)

pub returns : goal.returns
returns c = ending_end c.args.nodes.now c.requires.whole c.args.place c.args.count c.requires.symbol c.loop.counter c.loop.end c.loop-test.false c.loop.invariant
