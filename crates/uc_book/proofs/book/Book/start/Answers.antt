use Rattle.std.proofs.Common.{arith}
use Rattle.uc_machine.specs.Runs.{starts}
use Rattle.uc_book.proofs.book.Book.start.Goals as goal

pub invariant_of-result : goal.invariant_of-result
invariant_of-result g c = record {
  fit = c.in_ok-parts.ensures.fit c.args.shelf.now;
  room = c.in_ok-parts.ensures.room;
  reaches = starts (c.in_ok-parts.ensures.starts c.args.budget);
  budget = omega arith;
  few_axioms = c.in_ok-parts.ensures.axioms;
  few_goals = c.in_ok-parts.ensures.goals;
}

pub returns-clause-starts : goal.returns-clause-starts
returns-clause-starts g c = c.in_ok-parts.ensures.starts c.args.budget
