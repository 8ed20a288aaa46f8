-- The lines of what a finite table is to a problem, and of a text that isn't read as one.
use Rattle.std.specs.Prelude.{ℕ, List, [], ◌++◌, codes, decimal}
use Rattle.uc_tstp.specs.Printing.{further}
use Rattle.uc_table.specs.declared.answers.Tabled.{Tabled}
use Rattle.uc_table.specs.declared.answers.Tabled.TheVariants as tabled
use Rattle.uc_table.specs.declared.fault.TableFault.{TableFault}
use Rattle.uc_table.specs.declared.fault.TableFault.TheVariants.{Syntax, Version, TooManyCells, TooManyBytes, NoMemory}
use Rattle.uc_answer.specs.Lines.{located, spaced}

-- the line of an axiom or a goal of this number, and of the values of its variables, in the order of their numbers
abbrev pub assigned_line : List ℕ → ℕ → List ℕ → List ℕ → List ℕ
assigned_line kind number says values = kind ++ decimal number ++ says ++ further (codes " ") decimal values ++ codes "\n"

abbrev pub tabled_line : Tabled → List ℕ
tabled_line tabled.Model = codes "model\n"
tabled_line (tabled.AxiomFails number values) = assigned_line (codes "axiom ") number (codes " fails") values
tabled_line (tabled.GoalMeets number values) = assigned_line (codes "goal ") number (codes " meets") values
tabled_line (tabled.Assignments clause) = codes "% table Limit assignments\n"

abbrev pub tabled_status : Tabled → ℕ
tabled_status tabled.Model = 0
tabled_status (tabled.AxiomFails number values) = 1
tabled_status (tabled.GoalMeets number values) = 1
tabled_status (tabled.Assignments clause) = 3

-- the line of a refusal of a table's text; none for want of memory, which has a line of its own
abbrev pub table_fault_line : List ℕ → TableFault → List ℕ
table_fault_line file (Syntax place) = located file place (codes "Syntax") []
table_fault_line file (Version place) = located file place (codes "Version") []
table_fault_line file (TooManyCells place) = located file place (codes "Limit") (spaced (codes "cells"))
table_fault_line file (TooManyBytes place) = located file place (codes "Limit") (spaced (codes "bytes"))
table_fault_line file NoMemory = []
