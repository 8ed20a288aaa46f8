use Rattle.std.proofs.Common.{◌≡◌, ◌≤◌, ◌+◌, ◌++◌, map, take}
use Rattle.uc_rows.specs.Deaths.{revived}
use Rattle.uc_book.proofs.visiting.revive.Given as goal

abbrev pub invariant-loop-k : goal.invariant-loop-k
invariant-loop-k l = record {
  pairs : l.pairs.pairs ≡ l.initial.pairs.pairs ++ map (revived l.facts.front.entries) (take l.k l.falls);
  draws : l.pairs.draws ≡ l.initial.pairs.draws;
  room : l.initial.pairs.room ≤ l.pairs.room + l.k;
  spare : l.initial.pairs.spare ≤ l.pairs.spare + l.k;
}
