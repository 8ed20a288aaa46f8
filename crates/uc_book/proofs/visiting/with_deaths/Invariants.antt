use Rattle.std.proofs.Common.{◌≡◌, ◌++◌, take}
use Rattle.uc_shelf.specs.Fronts.{IsOf}
use Rattle.uc_rows.specs.Deaths.{deaths_by}
use Rattle.uc_book.proofs.visiting.with_deaths.Given as goal

abbrev pub invariant-loop-k : goal.invariant-loop-k
invariant-loop-k g l = record {
  of : IsOf l.shelf l.longer;
  entries : l.longer.entries ≡ l.front.entries ++ deaths_by l.killer (take l.k l.falls);
}
