use Rattle.std.proofs.Common.{length, take, drop}
use Rattle.uc_term.specs.Flat.{tree_of}
use Rattle.uc_fact.specs.Live.{rules_of}
use Rattle.uc_shelf.specs.Entries.{born, live, living}
use Rattle.uc_shelf.specs.Segments.{entries_of}
use Rattle.uc_shelf.proofs.Viewed.{Passes}
use Rattle.uc_shelf.proofs.view.View.first_in_trees.Given as goal

abbrev pub invariant-loop-k : goal.invariant-loop-k
invariant-loop-k g l = Passes (tree_of l.term) (g.T.Test.accepts l.test) (rules_of (live (entries_of l.segments))) (rules_of (living (entries_of l.segments) (length (born (entries_of (take l.k l.segments)))) (entries_of (drop l.k l.segments))))
