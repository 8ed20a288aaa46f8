use Rattle.std.proofs.Common.{sym}
use Rattle.uc_book.proofs.book.Book.history.Goals as goal

pub returns-clause-run : goal.returns-clause-run
returns-clause-run g c = rw (← c.self.view_is) (record { reaches = c.self.invariant.reaches; history_is = sym c.as_slice.ensures.value })
