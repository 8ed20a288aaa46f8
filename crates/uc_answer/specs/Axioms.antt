-- The equations of a problem.
use Rattle.std.specs.Prelude.{List, [], ◌∷◌}
use Rattle.uc_term.specs.declared.equation.Equation.{Equation}
use Rattle.uc_term.specs.Table.{Table, IsOf}

-- the symbols of the equations are the table's
abbrev pub AreEquationsOf : Table → List Equation → Type 0
AreEquationsOf table [] = Unit {0}
AreEquationsOf table (e ∷ es) = IsOf table e.left × IsOf table e.right × AreEquationsOf table es
