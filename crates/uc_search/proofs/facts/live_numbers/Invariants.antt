use Rattle.std.proofs.Common.{◌≡◌, ◌++◌, map}
use Rattle.uc_fact.specs.Live.{Live}
use Rattle.uc_shelf.specs.Entries.{live}
use Rattle.uc_task.specs.Living.{live_of}
use Rattle.uc_search.proofs.facts.live_numbers.Given as goal

abbrev pub invariant-loop-fact : goal.invariant-loop-fact
invariant-loop-fact l =
    goal.iterator-loop-fact.can_next l.fact-iterator ×
    goal.iterator-loop-fact.is_finite l.fact-iterator ×
    (l.numbers ++ map (λ (f : Live). f.number) (map live_of l.fact-iterator.rest.items) ≡ map (λ (f : Live). f.number) (live l.front.entries))
