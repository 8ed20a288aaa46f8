use Rattle.std.proofs.Common.{◌≡◌, ◌≤◌, length, take}
use Rattle.uc_table.specs.SearchWaiting.{IsWell}
use Rattle.uc_table.proofs.search_waiting.Waiting.take_back.Given as goal

abbrev pub invariant-loop-self : goal.invariant-loop-self
invariant-loop-self l = record {
  well : IsWell l.self;
  within : l.mark ≤ length l.self.entries.items;
  taken : l.self.entries.items ≡ take (length l.self.entries.items) l.initial.self.entries.items;
}

abbrev pub decreases-loop-self : goal.decreases-loop-self
decreases-loop-self l = length l.self.entries.items
