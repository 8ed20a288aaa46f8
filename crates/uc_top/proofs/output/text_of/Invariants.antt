use Rattle.std.proofs.Common.{◌≡◌, take}
use Rattle.uc_answer.specs.Lines.{joined}
use Rattle.uc_top.proofs.output.text_of.Given as goal

abbrev pub invariant-loop-line : goal.invariant-loop-line
invariant-loop-line l = record { so_far : l.text ≡ joined (take l.line-index l.answer.lines) }
