use Rattle.std.proofs.Common.{◌≡◌, ℕ, ◌≤◌, ◌+◌, ◌++◌, map, take}
use Rattle.uc_machine.specs.Effects.{pair_by}
use Rattle.uc_rows.specs.Deaths.{deaths_by}
use Rattle.uc_book.proofs.visiting.form.Given as goal

abbrev pub invariant-loop-k : goal.invariant-loop-k
invariant-loop-k l = record {
  pairs : (killer : ℕ) → l.pairs.pairs ≡ l.initial.pairs.pairs ++ map (pair_by (l.facts.front.entries ++ deaths_by killer l.falls)) (take l.k l.overlaps);
  draws : l.pairs.draws ≡ l.initial.pairs.draws;
  room : l.initial.pairs.room ≤ l.pairs.room + l.k;
  spare : l.initial.pairs.spare ≤ l.pairs.spare + l.k;
}
