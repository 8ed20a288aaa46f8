use Rattle.std.proofs.Common.{[]}
use Rattle.uc_table.proofs.SearchFollowing.{IsEnrolling}
use Rattle.uc_table.proofs.search_instances.enroll.Given as goal

abbrev pub invariant-loop-assignment : goal.invariant-loop-assignment
invariant-loop-assignment l = IsEnrolling l.size [] l.forms l.number l.fn.waiting.entries.items l.waiting l.assignment
