use Rattle.uc_machine.specs.Lists.{Each}
use Rattle.uc_final.specs.Made.{IsMade}
use Rattle.uc_final.proofs.Gathered.{Continues, origins_of}
use Rattle.uc_final.proofs.testing.phase_missing.Given as goal

abbrev pub invariant-loop-test : goal.invariant-loop-test
invariant-loop-test g l =
    (goal.iterator-loop-test g).can_next l.test-iterator ×
    (goal.iterator-loop-test g).is_finite l.test-iterator ×
    Each (IsMade (g.O.Order.meaning l.order) l.axioms l.front.entries) l.test-iterator.rest.items ×
    Continues (g.O.Order.meaning l.order) l.axioms l.front.entries l.origins (origins_of l.test-iterator.rest.items) l.list
