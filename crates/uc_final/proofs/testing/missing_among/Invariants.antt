use Rattle.std.proofs.Common.{length}
use Rattle.uc_machine.specs.Lists.{Each}
use Rattle.uc_machine.specs.Origins.{IsKnownOrigin}
use Rattle.uc_final.proofs.Gathered.{Continues}
use Rattle.uc_final.proofs.testing.missing_among.Given as goal

abbrev pub invariant-phases : goal.invariant-phases
invariant-phases g l = record {
  known : Each (IsKnownOrigin (g.O.Order.meaning l.order) l.axioms l.front.entries) l.rest;
  continues : Continues (g.O.Order.meaning l.order) l.axioms l.front.entries l.origins l.rest l.list;
}

abbrev pub decreases-phases : goal.decreases-phases
decreases-phases g l = length l.rest
