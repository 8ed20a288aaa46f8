use Rattle.std.proofs.Common.{◌≡◌, ◌≤◌, ◌-◌, ℕ, List, ◌++◌, length, take}
use Rattle.std.specs.Io.KnownBytes.{Appends}
use Rattle.uc_edge.specs.Pieces.{GoesIn}
use Rattle.uc_edge.proofs.sink.put.Given as goal

abbrev pub invariant-loop-from : goal.invariant-loop-from
invariant-loop-from g l = record {
  within : l.from ≤ length l.piece;
  so_far : Appends (g.S.Sink.written l.fn.sink) (g.S.Sink.written l.sink) (take l.from l.piece);
  kept : g.S.Sink.faults l.sink ≡ g.S.Sink.faults l.fn.sink;
  given : (pieces : List (List ℕ)) × (g.S.Sink.pieces l.sink ≡ g.S.Sink.pieces l.fn.sink ++ pieces) × GoesIn l.piece l.from pieces;
}

abbrev pub decreases-loop-from : goal.decreases-loop-from
decreases-loop-from g l = length l.piece - l.from
