use Rattle.std.proofs.Common.{refl}
use Rattle.uc_term.specs.declared.node.Node.TheVariants.{Var}
use Rattle.uc_kbo.proofs.Asking.{least_init, least_more, least_all}
use Rattle.uc_kbo.proofs.wide.least_of.Goals as goal

pub loop-n-init : goal.loop-n-init
loop-n-init c = least_init c.args.nodes.now c.args.from c.args.least

pub loop-n-preserved : goal.loop-n-preserved
loop-n-preserved c = let e = c.lesser-result.ensures in least_more c.args.nodes.now c.args.from c.args.least c.loop-n.n-index c.loop-n.result c.lesser-result.result (Var 0) _ c.loop-n-test.true refl e.here e.less e.from c.loop-n.invariant

pub returns-clause-here : goal.returns-clause-here
returns-clause-here c = least_all c.args.nodes.now c.args.from c.args.least c.loop-n.n-index c.loop-n.result c.loop-n-test.false c.loop-n.invariant

pub returns-clause-less : goal.returns-clause-less
returns-clause-less c = c.loop-n.invariant.less

pub returns-clause-from : goal.returns-clause-from
returns-clause-from c = c.loop-n.invariant.above
