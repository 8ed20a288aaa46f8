-- What every term of a program has, whatever it is.
use Rattle.std.specs.Prelude.{◌≤◌, List}
use Rattle.std.specs.List.{AllByRecursion}
use Rattle.uc_term.specs.Tree.{Tree, nodes}
use Rattle.uc_term.specs.Variables.{variables}
use Rattle.uc_clause.specs.Printable.{AreNumbered}
use Rattle.uc_check.specs.declared.proof.Line.{Line}
use Rattle.uc_check.specs.declared.proof.LineStep.{LineStep}
use Rattle.uc_check.specs.declared.proof.LineSource.{LineSource}
use Rattle.uc_check.specs.declared.proof.LineSource.TheVariants.{Chain}

-- at most 4,096 nodes, and variables whose numbers have 32 bits
abbrev pub IsBounded : Tree → Type 0
IsBounded t = (nodes t ≤ 4096) × AreNumbered (variables t)

abbrev pub AreBoundedSteps : List LineStep → Type 0
AreBoundedSteps steps = AllByRecursion (λ (s : LineStep). IsBounded s.to) steps

abbrev pub IsBoundedSource : LineSource → Type 0
IsBoundedSource (Chain start steps parents) = IsBounded start × AreBoundedSteps steps
IsBoundedSource other = Unit {0}

abbrev pub IsBoundedLine : Line → Type 0
IsBoundedLine line = IsBounded line.left × IsBounded line.right × IsBoundedSource line.source

abbrev pub AreBounded : List Line → Type 0
AreBounded lines = AllByRecursion IsBoundedLine lines
