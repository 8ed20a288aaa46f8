use Rattle.std.proofs.Common.{◌≤◌, length}
use Rattle.uc_certify.proofs.JoinsTested.{TestsOn}
use Rattle.uc_certify.proofs.checking.test_members.Given as goal

abbrev pub invariant-loop-n : goal.invariant-loop-n
invariant-loop-n g l = TestsOn (g.O.Order.meaning l.order) l.rules.facts.now l.axioms l.members l.joins l.n × (l.n ≤ length l.joins)
