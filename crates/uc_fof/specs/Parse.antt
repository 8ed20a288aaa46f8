-- What the grammar makes of the tokens of a file with formulas.
use Rattle.uc_clause.specs.Parse as clause
use Rattle.uc_fof.specs.declared.heading.FormulaHeading.{FormulaHeading}

-- a formula: how its item begins, and what it says
pub record Stated : Type 0 where
  pub heading : FormulaHeading
  pub literal : clause.Literal

pub data Entry : Type 0 where
  item : clause.Entry → Entry
  stated : Stated → Entry
