use Rattle.uc_term.specs.Flat.{tree_of}
use Rattle.uc_rewrite.proofs.Testing.{ruled_out}
use Rattle.uc_rewrite.proofs.falls.FallsTest.refuses_embedded.Goals as goal

pub returns : goal.returns
returns g c = λ _ found from to can embedded down. ruled_out (g.C.Comparison.greater c.args.self.now.rules.now.comparison.now) (g.C.Comparison.constant c.args.self.now.rules.now.comparison.now) (g.I.Index.live c.args.self.now.rules.now.index.now) (g.met.I.Index.rising c.args.self.now.rules.now.index.now) (tree_of c.args.self.now.term.now) from to found (g.met.C.Comparison.no_embedded c.args.self.now.rules.now.comparison.now from to embedded) can.3 down
