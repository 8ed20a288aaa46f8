use Rattle.std.proofs.Common.{◌≡◌, ◌≤◌, drop, []}
use Rattle.uc_table.specs.Tables.{MOST_CELLS}
use Rattle.uc_table.specs.Places.{IsAt}
use Rattle.uc_table.specs.Reading.{rows_after, cells_in}
use Rattle.uc_table.proofs.reading.rows_at.Given as goal

abbrev pub invariant-loop-f : goal.invariant-loop-f
invariant-loop-f l = (l.cells ≡ cells_in l.rows) × (l.cells ≤ MOST_CELLS) × IsAt l.bytes l.here × (rows_after l.symbols l.size l.rows (drop l.f-index l.signature) l.here.number (drop l.here.from l.bytes) ≡ rows_after l.symbols l.size [] l.signature l.fn.at.number (drop l.fn.at.from l.bytes))
