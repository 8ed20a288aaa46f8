use Rattle.uc_term.specs.Flat.{tree_of}
use Rattle.uc_rewrite.proofs.Scanned.{Passes}
use Rattle.uc_rewrite.proofs.scan.ScanIndex.first_that.Given as goal

abbrev pub invariant-loop-number : goal.invariant-loop-number
invariant-loop-number g l = Passes (tree_of l.term) (g.T.Test.accepts l.test) l.self.facts.now l.number
