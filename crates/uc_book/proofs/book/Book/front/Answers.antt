use Rattle.std.proofs.Common.{sym, subst}
use Rattle.uc_shelf.specs.Fronts.{IsOf}
use Rattle.uc_book.proofs.book.Book.front.Goals as goal

pub returns-clause-of : goal.returns-clause-of
returns-clause-of g c = rw (← c.self.view_is) (subst (IsOf c.self.inside.shelf.now) (sym c.front.ensures) c.self.invariant.fit.front)
