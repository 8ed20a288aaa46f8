use Rattle.uc_term.specs.Flat.{tree_of}
use Rattle.uc_rewrite.proofs.Testing.{ruled_out, let_through}
use Rattle.uc_rewrite.proofs.falls.FallsTest.outlook.Goals as goal

pub returns-in-Never-clause-fails : goal.returns-in-Never-clause-fails
returns-in-Never-clause-fails g c = λ _ found can fact side down. ruled_out (g.C.Comparison.greater c.args.self.now.rules.now.comparison.now) (g.C.Comparison.constant c.args.self.now.rules.now.comparison.now) (g.I.Index.live c.args.self.now.rules.now.index.now) (g.met.I.Index.rising c.args.self.now.rules.now.index.now) (tree_of c.args.self.now.term.now) c.args.from.now c.args.to.now found c.in-Never.ensures can.3 down

pub returns-in-Always-clause-passes : goal.returns-in-Always-clause-passes
returns-in-Always-clause-passes g c = λ _ found can fact side. let_through (g.C.Comparison.greater c.args.self.now.rules.now.comparison.now) (g.C.Comparison.constant c.args.self.now.rules.now.comparison.now) (g.I.Index.live c.args.self.now.rules.now.index.now) (g.met.I.Index.rising c.args.self.now.rules.now.index.now) (tree_of c.args.self.now.term.now) c.args.from.now c.args.to.now found c.in-Always.ensures can.3
