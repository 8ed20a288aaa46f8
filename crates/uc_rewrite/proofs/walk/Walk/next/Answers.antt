use Rattle.std.proofs.Common.{arith}
use Rattle.uc_rewrite.proofs.Advancing.{finished}
use Rattle.uc_rewrite.proofs.walk.Walk.next.Goals as goal

pub returns-clause-redex : goal.returns-clause-redex
returns-clause-redex g c = finished (g.C.Comparison.greater c.args.rules.now.comparison.now) (g.C.Comparison.constant c.args.rules.now.comparison.now) (g.I.Index.live c.args.rules.now.index.now) c.args.list.now c.requires.whole c.loop-top.self.opened.items c.loop-top.self.place (let n = c.in_default.ensures.len in let v = c.in_default.ensures.variant in let k = c.in_default.ensures.cases in let m = c.in_default.ensures.value in omega arith) c.loop-top.invariant.0
