use Rattle.std.proofs.Common.{◌≡◌, take}
use Rattle.std.specs.List.{concat}
use Rattle.uc_table.specs.Tables.{AreRows, cells_for}
use Rattle.uc_table.proofs.searching.rows_of.Given as goal

abbrev pub invariant-loop-f : goal.invariant-loop-f
invariant-loop-f l = record {
  from : l.from ≡ cells_for l.symbols l.size (take l.f-index l.signature);
  rows : AreRows l.symbols l.size (take l.f-index l.signature) l.rows.items;
  cells : concat l.rows.items ≡ take l.from l.values;
}
