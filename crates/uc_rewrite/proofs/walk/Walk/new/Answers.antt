use Rattle.uc_rewrite.proofs.Advancing.{begins}
use Rattle.uc_rewrite.proofs.walk.Walk.new.Goals as goal

pub returns-clause-walks : goal.returns-clause-walks
returns-clause-walks g c = begins (g.C.Comparison.greater c.args.rules.now.comparison.now) (g.C.Comparison.constant c.args.rules.now.comparison.now) (g.I.Index.live c.args.rules.now.index.now) c.args.list.now c.requires.whole c.new.result.items c.enter.new.self.opened.items c.enter.new.self.place c.new.ensures.items c.in_ok-enter.ensures.opened c.in_ok-enter.ensures.place
