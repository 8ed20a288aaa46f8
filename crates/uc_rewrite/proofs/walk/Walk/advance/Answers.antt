use Rattle.std.proofs.Common.{MatchOption, arith}
use Rattle.std.proofs.lemmas.Result.{IfOk-weaker}
use Rattle.uc_term.specs.Flat.{tree_of}
use Rattle.uc_rewrite.specs.Walking.{Walks, Advances, Stops}
use Rattle.uc_rewrite.proofs.Advancing.{descent, changed}
use Rattle.uc_rewrite.proofs.Keeping.{went_on}
use Rattle.uc_rewrite.proofs.walk.Walk.advance.Goals as goal

pub go_on-requires-clause-within : goal.go_on-requires-clause-within
go_on-requires-clause-within g c = (descent (g.C.Comparison.greater c.args.rules.now.comparison.now) (g.C.Comparison.constant c.args.rules.now.comparison.now) (g.I.Index.live c.args.rules.now.index.now) c.args.list.now c.requires.whole c.args.self.now.opened.items c.args.top c.args.self.now.place c.if-top-gt0.true c.requires.walks).within

pub returns-in_ok-go_on-clause-redex : goal.returns-in_ok-go_on-clause-redex
returns-in_ok-go_on-clause-redex g c = went_on (g.C.Comparison.greater c.args.rules.now.comparison.now) (g.C.Comparison.constant c.args.rules.now.comparison.now) (g.I.Index.live c.args.rules.now.index.now) c.args.list.now c.requires.whole c.args.self.now.opened.items c.args.top c.args.self.now.place c.args.self.now.kept.items c.requires.kept (descent (g.C.Comparison.greater c.args.rules.now.comparison.now) (g.C.Comparison.constant c.args.rules.now.comparison.now) (g.I.Index.live c.args.rules.now.index.now) c.args.list.now c.requires.whole c.args.self.now.opened.items c.args.top c.args.self.now.place c.if-top-gt0.true c.requires.walks) c.go_on.new.self.opened.items c.go_on.new.self.place c.in_ok-go_on.ensures.moves

pub leave-requires-clause-none : goal.leave-requires-clause-none
leave-requires-clause-none g c = let h = c.if-top-gt0.false in omega arith

pub returns-else-top-gt0-clause-redex : goal.returns-else-top-gt0-clause-redex
returns-else-top-gt0-clause-redex g c =
    IfOk-weaker c.leave.result (λ redex. MatchOption redex (Walks (g.C.Comparison.greater c.args.rules.now.comparison.now) (g.C.Comparison.constant c.args.rules.now.comparison.now) (g.I.Index.live c.args.rules.now.index.now) (tree_of c.args.list.now) c.args.self.now.opened.items c.args.self.now.place) (Stops (g.C.Comparison.greater c.args.rules.now.comparison.now) (g.C.Comparison.constant c.args.rules.now.comparison.now) (g.I.Index.live c.args.rules.now.index.now) (tree_of c.args.list.now) c.args.self.now.opened.items)) (λ redex. MatchOption redex (Advances (g.C.Comparison.greater c.args.rules.now.comparison.now) (g.C.Comparison.constant c.args.rules.now.comparison.now) (g.I.Index.live c.args.rules.now.index.now) c.args.list.now c.args.self.now.opened.items c.args.self.now.place c.args.self.now.opened.items c.args.self.now.place) (Stops (g.C.Comparison.greater c.args.rules.now.comparison.now) (g.C.Comparison.constant c.args.rules.now.comparison.now) (g.I.Index.live c.args.rules.now.index.now) (tree_of c.args.list.now) c.args.self.now.opened.items)) (λ redex m. changed (Walks (g.C.Comparison.greater c.args.rules.now.comparison.now) (g.C.Comparison.constant c.args.rules.now.comparison.now) (g.I.Index.live c.args.rules.now.index.now) (tree_of c.args.list.now) c.args.self.now.opened.items c.args.self.now.place) (Advances (g.C.Comparison.greater c.args.rules.now.comparison.now) (g.C.Comparison.constant c.args.rules.now.comparison.now) (g.I.Index.live c.args.rules.now.index.now) c.args.list.now c.args.self.now.opened.items c.args.self.now.place c.args.self.now.opened.items c.args.self.now.place) (Stops (g.C.Comparison.greater c.args.rules.now.comparison.now) (g.C.Comparison.constant c.args.rules.now.comparison.now) (g.I.Index.live c.args.rules.now.index.now) (tree_of c.args.list.now) c.args.self.now.opened.items) redex (λ walks. (walks, omega arith)) m) c.leave.ensures
