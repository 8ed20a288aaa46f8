use Rattle.std.proofs.Common.{◌≡◌, map, take}
use Rattle.uc_shelf.specs.Entries.{living}
use Rattle.uc_shelf.specs.Lending.{lent_of}
use Rattle.uc_shelf.specs.Segments.{entries_of}
use Rattle.uc_shelf.proofs.view.View.facts.Given as goal

abbrev pub invariant-loop-k : goal.invariant-loop-k
invariant-loop-k l = map lent_of l.list.items ≡ living (entries_of l.segments) 0 (entries_of (take l.k l.segments))
