use Rattle.std.proofs.Common.{◌≡◌, ◌≤◌, []}
use Rattle.uc_book.specs.Openings.{opening_of}
use Rattle.uc_book.specs.Answers.{IsSameBook}
use Rattle.uc_search.specs.Working.{Counts, IsSamePass}
use Rattle.uc_search.proofs.Rounding.{LeadsOn}
use Rattle.uc_search.proofs.rounds.search_counting.Given as goal

abbrev pub invariant-loop-made : goal.invariant-loop-made
invariant-loop-made g l = record {
  units : l.made ≤ l.book.state.counted;
  searches : LeadsOn (g.O.Order.meaning l.initial.book.order) (opening_of l.initial.book.opening) l.initial.pass.worker l.initial.book.state l.book.state l.initial.passes l.passes;
  none_out : l.book.state.out ≡ [];
  book : IsSameBook l.initial.book l.book;
  pass : IsSamePass l.initial.pass l.pass;
  count : Counts l.initial.pass l.pass l.initial.book.state l.book.state;
}
