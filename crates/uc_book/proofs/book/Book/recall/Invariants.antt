use Rattle.std.proofs.Common.{◌≡◌, length}
use Rattle.uc_machine.specs.Effects.{recalls}
use Rattle.uc_book.specs.Answers.{IsSameBook}
use Rattle.uc_book.proofs.book.Book.recall.Given as goal

abbrev pub invariant-tasks : goal.invariant-tasks
invariant-tasks g l = record {
  state : recalls l.self.state ≡ recalls l.initial.self.state;
  book : IsSameBook l.initial.self l.self;
  front : l.self.front ≡ l.initial.self.front;
}

abbrev pub decreases-tasks : goal.decreases-tasks
decreases-tasks g l = length l.self.state.out
