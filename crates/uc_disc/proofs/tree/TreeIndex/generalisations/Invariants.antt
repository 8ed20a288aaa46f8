use Rattle.std.proofs.Common.{◌-◌, ◌≤◌, length, take}
use Rattle.uc_term.specs.Flat.{tree_of}
use Rattle.uc_fact.specs.Live.{rules_of}
use Rattle.uc_fact.specs.Retrieval.{Generalises}
use Rattle.uc_disc.specs.Numbered.{risen}
use Rattle.uc_disc.proofs.tree.TreeIndex.generalisations.Given as goal

abbrev pub invariant-loop-list : goal.invariant-loop-list
invariant-loop-list l = (l.from ≤ length (rules_of (risen 0 l.self))) × Generalises (tree_of l.term) (take l.from (rules_of (risen 0 l.self))) l.list.items

abbrev pub decreases-loop-list : goal.decreases-loop-list
decreases-loop-list l = length (rules_of (risen 0 l.self)) - l.from
