-- What is read again as it was printed.
use Rattle.std.specs.Prelude.{List}
use Rattle.uc_term.specs.declared.equation.Equation.{Equation}
use Rattle.uc_term.specs.Table.{Table}
use Rattle.uc_clause.specs.Printable.{IsPrintableSymbol}
use Rattle.uc_order.specs.Members.{Each}
use Rattle.uc_order.specs.declared.spec.OrderSpec.{OrderSpec}
use Rattle.uc_ordering.specs.Fits.{Fits}
use Rattle.uc_system.specs.Facts.{IsFact}
use Rattle.uc_system.specs.Reading.{precedence_of}

-- A description of an order of its own symbols, which have names that can be spelled and at most 255 arguments; and facts over
-- these symbols, with their variables numbered by first occurrence.
pub record IsPrintableSystem (table : Table) (spec : OrderSpec) (es : List Equation) : Type 0 where
  pub fits : Fits table (precedence_of spec) spec
  pub symbols : Each (IsPrintableSymbol table) (precedence_of spec)
  pub facts : Each (IsFact table (precedence_of spec)) es
