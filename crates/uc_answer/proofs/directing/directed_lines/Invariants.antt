use Rattle.std.proofs.Common.{ℕ, List, ◌++◌, drop}
use Rattle.uc_answer.specs.Lines.{joined}
use Rattle.uc_answer.specs.Directions.{AreDirected}
use Rattle.uc_answer.proofs.directing.directed_lines.Given as goal

abbrev pub invariant-loop-number : goal.invariant-loop-number
invariant-loop-number g l = record {
  lines : (rest : List ℕ) → AreDirected l.symbols (g.O.Order.meaning l.order) l.number (drop l.number l.equations) rest → AreDirected l.symbols (g.O.Order.meaning l.order) 0 l.equations (joined l.lines ++ rest);
}
