use Rattle.uc_order.specs.Members.{Each}
use Rattle.uc_certify.specs.Gathering.{IsKnownMember}
use Rattle.uc_certify.proofs.Gathered.{HasFirst}
use Rattle.uc_certify.proofs.expected.expected_members.Given as goal

abbrev pub invariant-loop-k : goal.invariant-loop-k
invariant-loop-k g l = HasFirst (g.O.Order.meaning l.order).greater l.facts l.axioms l.k l.members.items × Each (IsKnownMember l.facts l.axioms) l.members.items
