-- Tests that were made.
use Rattle.std.specs.Prelude.{List, IfOk}
use Rattle.uc_term.specs.declared.equation.Equation.{Equation}
use Rattle.uc_order.specs.Laws.{Meaning}
use Rattle.uc_shelf.specs.declared.entry.Entry.{Entry}
use Rattle.uc_final.specs.Phases.{IsTested}
use Rattle.uc_final.specs.declared.testing.Test.{Test}

-- the test found what it is to find, or memory was refused
abbrev pub IsMade : Meaning → List Equation → List Entry → Test → Type 0
IsMade m axioms entries t = IfOk t.found (IsTested m axioms entries t.origin)
