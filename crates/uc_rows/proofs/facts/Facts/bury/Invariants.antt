use Rattle.std.proofs.Common.{◌≡◌, take}
use Rattle.std.specs.Prelude.{vec_capacity}
use Rattle.uc_rows.specs.Deaths.{rows_by}
use Rattle.uc_rows.proofs.facts.Facts.bury.Given as goal

abbrev pub invariant-loop-k : goal.invariant-loop-k
invariant-loop-k l = record {
  rows : l.self-inside.rows.items ≡ rows_by (take l.k l.falls) l.initial.self-inside.rows.items;
  capacity : vec_capacity l.self-inside.rows ≡ vec_capacity l.initial.self-inside.rows;
  front : l.self-inside.front ≡ l.initial.self-inside.front;
  unmet_from : l.self-inside.unmet_from ≡ l.initial.self-inside.unmet_from;
}
