use Rattle.uc_term.specs.Flat.{tree_of}
use Rattle.uc_rewrite.proofs.Scanned.{Scans}
use Rattle.uc_rewrite.proofs.scan.ScanIndex.generalisations.Given as goal

abbrev pub invariant-loop-number : goal.invariant-loop-number
invariant-loop-number l = Scans (tree_of l.term) l.self.facts.now l.number l.list.items
