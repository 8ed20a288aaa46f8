use Rattle.std.proofs.Common.{◌≡◌, ℕ, ◌≤◌, ◌++◌, take}
use Rattle.std.specs.Prelude.{count_by}
use Rattle.uc_pair.specs.declared.formed.Formed.{Formed}
use Rattle.uc_machine.specs.State.{is_waiting}
use Rattle.uc_machine.specs.Effects.{pair_by}
use Rattle.uc_rows.specs.Deaths.{deaths_by}
use Rattle.uc_book.proofs.visiting.newly_waiting.Given as goal

abbrev pub invariant-loop-k : goal.invariant-loop-k
invariant-loop-k l = record {
  value : (killer : ℕ) → l.count ≡ count_by (λ (f : Formed). is_waiting (pair_by (l.facts.front.entries ++ deaths_by killer l.falls) f).condition) (take l.k l.overlaps);
  few : l.count ≤ l.k;
}
