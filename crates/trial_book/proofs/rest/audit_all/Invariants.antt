use Rattle.uc_book.specs.Openings.{opening_of}
use Rattle.uc_book.specs.Answers.{IsSameBook}
use Rattle.uc_search.proofs.Rests.{WereMissing}
use Rattle.trial_book.proofs.rest.audit_all.Given as goal

abbrev pub invariant-loop-missing : goal.invariant-loop-missing
invariant-loop-missing g l =
    (goal.iterator-loop-missing g).can_next l.missing-iterator ×
    (goal.iterator-loop-missing g).is_finite l.missing-iterator ×
    WereMissing (g.O.Order.meaning l.initial.book.order) (opening_of l.initial.book.opening) l.initial.book.state l.fn.all l.missing-iterator.rest.items l.book.state ×
    IsSameBook l.initial.book l.book
