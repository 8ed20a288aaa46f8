use Rattle.std.proofs.Common.{◌≡◌, ◌++◌}
use Rattle.uc_shelf.specs.Viewing.{found_living}
use Rattle.uc_shelf.proofs.view.View.add_living.Given as goal

abbrev pub invariant-loop-one : goal.invariant-loop-one
invariant-loop-one l =
    goal.iterator-loop-one.can_next l.one-iterator ×
    goal.iterator-loop-one.is_finite l.one-iterator ×
    (l.list.items ++ found_living l.self l.one-iterator.rest.items ≡ l.fn.list.items ++ found_living l.self l.fn.found)
