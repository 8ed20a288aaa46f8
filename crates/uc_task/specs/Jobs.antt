-- What a job can be done for.
use Rattle.std.specs.Prelude.{◌<◌, List, length}
use Rattle.uc_term.specs.declared.equation.Equation.{Equation}
use Rattle.uc_order.specs.Laws.{Meaning}
use Rattle.uc_shelf.specs.declared.entry.Entry.{Entry}
use Rattle.uc_shelf.specs.Entries.{born}
use Rattle.uc_machine.specs.declared.task.Job.{Job}
use Rattle.uc_machine.specs.declared.task.Job.TheVariants.{Goal, More, Meet, Join}
use Rattle.uc_machine.specs.Origins.{IsKnownOrigin}

-- what the job names is there: a fact is born, and a pair comes from an axiom, a listed overlap or a fact that is born
abbrev pub CanBeDone : Meaning → List Equation → List Entry → Job → Type 0
CanBeDone m axioms entries (Goal g l r) = Unit {0}
CanBeDone m axioms entries (More g l r) = Unit {0}
CanBeDone m axioms entries (Meet i) = i < length (born entries)
CanBeDone m axioms entries (Join p origin) = IsKnownOrigin m axioms entries origin
