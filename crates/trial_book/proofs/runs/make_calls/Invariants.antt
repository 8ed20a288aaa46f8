use Rattle.uc_book.specs.Answers.{IsSameBook}
use Rattle.trial_book.specs.Teams.{IsTeamOf}
use Rattle.trial_book.proofs.runs.make_calls.Given as goal

abbrev pub invariant-loop : goal.invariant-loop
invariant-loop g l = record {
  book : IsSameBook l.initial.book l.book;
  team : IsTeamOf (g.O.Order.meaning l.initial.book.order) l.initial.book.opening l.team;
}
