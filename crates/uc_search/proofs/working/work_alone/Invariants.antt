use Rattle.std.proofs.Common.{◌≡◌, ◌≤◌, ◌-◌, ◌^◌, []}
use Rattle.uc_machine.specs.Events.{commits_by}
use Rattle.uc_book.specs.Openings.{opening_of}
use Rattle.uc_book.specs.Answers.{IsSameBook}
use Rattle.uc_search.specs.Working.{Counts, IsSamePass, Works}
use Rattle.uc_search.proofs.working.work_alone.Given as goal

abbrev pub invariant-loop-turn : goal.invariant-loop-turn
invariant-loop-turn g l = record {
  turns : l.turn ≤ commits_by l.initial.pass.worker l.book.state.history;
  works : Works (g.O.Order.meaning l.initial.book.order) (opening_of l.initial.book.opening) l.initial.pass.worker l.initial.book.state l.book.state;
  none_out : l.book.state.out ≡ [];
  book : IsSameBook l.initial.book l.book;
  pass : IsSamePass l.initial.pass l.pass;
  count : Counts l.initial.pass l.pass l.initial.book.state l.book.state;
  bank : l.bank ≡ l.initial.bank;
}

abbrev pub decreases-loop-turn : goal.decreases-loop-turn
decreases-loop-turn g l = 2 ^ 64 - l.turn
