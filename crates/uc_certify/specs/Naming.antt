-- How the symbols and the variables of joins are named where they are printed.
use Rattle.std.specs.Prelude.{ℕ, ◌≡◌, List, slice_get, Some}
use Rattle.uc_term.specs.declared.equation.Equation.{Equation}
use Rattle.uc_term.specs.declared.node.Sym.{Sym}
use Rattle.uc_term.specs.Table.{Table, arity_of}
use Rattle.uc_term.specs.Variables.{variables}
use Rattle.uc_order.specs.Laws.{Meaning, HasSym}
use Rattle.uc_certificate.specs.Printable.{AreFew}

-- each symbol of the order is so, with its arity in the table
abbrev pub AreSymbolsIn : Table → (Sym → Type 0) → Meaning → Type 0
AreSymbolsIn table IsSo m = (f : Sym) → HasSym m f → IsSo f × (m.arity f ≡ arity_of table f)

-- join lines can name the variables of each equation
abbrev pub HaveFewVariables : List Equation → Type 0
HaveFewVariables es = (number : ℕ) (e : Equation) → slice_get es number ≡ Some e → AreFew (variables e.left) × AreFew (variables e.right)
