use Rattle.std.proofs.Common.{◌≡◌}
use Rattle.uc_book.specs.Answers.{IsSameBook}
use Rattle.tests_machine.proofs.books.turns.turns.Given as goal

abbrev pub invariant-loop : goal.invariant-loop
invariant-loop g l = record {
  book : IsSameBook l.initial.book l.book;
  pass : l.pass.opening ≡ l.initial.pass.opening;
}
