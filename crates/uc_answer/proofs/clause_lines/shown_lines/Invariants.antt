use Rattle.std.proofs.Common.{◌≡◌, ◌++◌, drop}
use Rattle.uc_answer.specs.Lines.{joined, shown_lines}
use Rattle.uc_answer.proofs.clause_lines.shown_lines.Given as goal

abbrev pub invariant-loop-sourced : goal.invariant-loop-sourced
invariant-loop-sourced l = joined l.lines ++ shown_lines l.symbols (drop l.sourced-index l.clauses) ≡ shown_lines l.symbols l.clauses
