use Rattle.std.proofs.Common.{List}
use Rattle.uc_term.specs.declared.equation.Equation.{Equation}
use Rattle.uc_order.specs.Members.{Each}
use Rattle.uc_certify.specs.Gathering.{IsKnownMember}
use Rattle.uc_certify.proofs.Gathered.{AddsFirst}
use Rattle.uc_certify.proofs.expected.add_overlaps.Given as goal

abbrev pub invariant-loop-i : goal.invariant-loop-i
invariant-loop-i g l =
    AddsFirst (g.O.Order.meaning l.order).greater l.k l.outer l.facts l.i l.fn.members.items l.members.items ×
    ((axioms : List Equation) → Each (IsKnownMember l.facts axioms) l.fn.members.items → Each (IsKnownMember l.facts axioms) l.members.items)
