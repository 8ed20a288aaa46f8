use Rattle.std.proofs.Common.{sym, subst}
use Rattle.uc_book.specs.Openings.{HasNot, opening_of}
use Rattle.uc_worker.proofs.Starting.{starts_none_out}
use Rattle.tests_machine.proofs.books.settings.begin.Goals as goal

pub enroll-requires-clause-first : goal.enroll-requires-clause-first
enroll-requires-clause-first g c = subst (HasNot c.args.worker) (sym c.in_ok-book.ensures.enrolled) tt

pub returns-clause-none_out : goal.returns-clause-none_out
returns-clause-none_out g c = rw c.in_ok-pass.ensures.book (starts_none_out (opening_of c.in_ok-book.book.opening) c.in_ok-book.book.state c.in_ok-book.ensures.starts)
