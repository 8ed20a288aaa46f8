use Rattle.std.proofs.Common.{◌≡◌, ◌≤◌, ◌-◌, List, length, take, ℕ}
use Rattle.std.specs.Io.KnownBytes.{Appends}
use Rattle.uc_top.specs.Given.{LinesTo, TookLines}
use Rattle.uc_top.proofs.output.put_lines.Given as goal

abbrev pub invariant-loop-from : goal.invariant-loop-from
invariant-loop-from g l = record {
  within : l.from ≤ length l.text;
  so_far : Appends (g.S.Sink.written l.fn.sink) (g.S.Sink.written l.sink) (take l.from l.text);
  counted : g.S.Sink.faults l.sink ≡ g.S.Sink.faults l.fn.sink;
  lines : (lines : List (List ℕ)) × LinesTo l.text l.from lines × TookLines (g.S.Sink.pieces l.fn.sink) lines (g.S.Sink.pieces l.sink);
}

abbrev pub decreases-loop-from : goal.decreases-loop-from
decreases-loop-from g l = length l.text - l.from
