use Rattle.std.proofs.Common.{◌≡◌, List, length}
use Rattle.uc_term.specs.Tree.{Tree}
use Rattle.uc_term.specs.Table.{Grows}
use Rattle.uc_term.specs.Gathering.{AreOf}
use Rattle.uc_problem.specs.Closing.{AreTaken}
use Rattle.uc_problem.proofs.ConstantNames.{AddsBehind, NamesBehind}
use Rattle.uc_problem.proofs.closing.add_constants.Given as goal

abbrev pub invariant-loop : goal.invariant-loop
invariant-loop l = record {
  count : length l.constants.items ≡ l.counter;
  grows : Grows l.fn.symbols l.symbols;
  adds : AddsBehind l.fn.symbols l.symbols l.constants.items;
  named : (ts : List Tree) → AreOf l.fn.symbols ts → AreTaken l.fn.symbols ts l.names.keys → NamesBehind l.symbols ts l.from l.constants.items;
}
