use Rattle.std.proofs.Common.{◌<◌, ◌^◌, length, sym, subst}
use Rattle.uc_term.specs.declared.equation.Equation.{Equation}
use Rattle.std.specs.Prelude.{List}
use Rattle.uc_book.proofs.book.Book.axioms.Goals as goal

pub returns-clause-few : goal.returns-clause-few
returns-clause-few g c = subst (λ (es : List Equation). length es < 2 ^ 31) (sym c.as_slice.ensures) c.self.invariant.few_axioms
