use Rattle.std.proofs.Common.{◌≡◌, take}
use Rattle.uc_rows.specs.Deaths.{alive_of}
use Rattle.uc_book.proofs.visiting.alive.Given as goal

abbrev pub invariant-loop-k : goal.invariant-loop-k
invariant-loop-k l = l.list.items ≡ alive_of l.facts.front.entries (take l.k l.kills)
