use Rattle.std.proofs.Common.{arith, sym, subst}
use Rattle.uc_book.specs.Openings.{HasNot}
use Rattle.tests_machine.proofs.books.comes_late.Goals as goal

pub enroll-requires-clause-first : goal.enroll-requires-clause-first
enroll-requires-clause-first g c = subst (HasNot 64) (sym c.requires.enrolled) ((λ e. omega (arith, e)), tt)
