use Rattle.std.proofs.Common.{◌≡◌, ◌^◌, ◌≤◌}
use Rattle.uc_table.specs.Tables.{MOST_ASSIGNMENTS}
use Rattle.uc_table.proofs.places.lists_of.Given as goal

abbrev pub invariant-loop : goal.invariant-loop
invariant-loop l = (l.lists ≡ l.size ^ l.counter) × (l.lists ≤ MOST_ASSIGNMENTS)
