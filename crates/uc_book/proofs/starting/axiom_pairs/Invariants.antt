use Rattle.std.proofs.Common.{◌≡◌, ◌≤◌, ◌+◌, length, take}
use Rattle.uc_machine.specs.Runs.{axiom_pairs}
use Rattle.uc_book.proofs.starting.axiom_pairs.Given as goal

abbrev pub invariant-loop-k : goal.invariant-loop-k
invariant-loop-k l = record {
  pairs : l.pairs.pairs ≡ axiom_pairs 0 (take l.k l.axioms);
  draws : l.pairs.draws ≡ 0;
  room : length l.axioms ≤ l.pairs.room + l.k;
  spare : length l.axioms ≤ l.pairs.spare + l.k;
}
