use Rattle.std.proofs.Common.{◌≡◌, ℕ, ◌+◌, ◌≤◌, length, take, get_or}
use Rattle.uc_table.specs.Tables.{MOST_CELLS, cells_for}
use Rattle.uc_table.proofs.search_layout.firsts_of.Given as goal

abbrev pub invariant-loop-f : goal.invariant-loop-f
invariant-loop-f l = record {
  cells : l.cells ≡ cells_for l.symbols l.size (take l.f-index l.signature);
  few : l.cells ≤ MOST_CELLS;
  as_many : length l.firsts.items ≡ l.f-index + 1;
  each : (i : ℕ) → i ≤ l.f-index → get_or l.firsts.items i 0 ≡ cells_for l.symbols l.size (take i l.signature);
}
