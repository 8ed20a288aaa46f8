use Rattle.std.proofs.Common.{◌≡◌, ◌++◌, map}
use Rattle.uc_fact.specs.Live.{equations_of}
use Rattle.uc_shelf.specs.Entries.{live}
use Rattle.uc_task.specs.Living.{live_of}
use Rattle.uc_search.proofs.facts.live_system.Given as goal

abbrev pub invariant-loop-fact : goal.invariant-loop-fact
invariant-loop-fact l =
    goal.iterator-loop-fact.can_next l.fact-iterator ×
    goal.iterator-loop-fact.is_finite l.fact-iterator ×
    (l.facts ++ equations_of (map live_of l.fact-iterator.rest.items) ≡ equations_of (live l.front.entries))
