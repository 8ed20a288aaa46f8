use Rattle.std.proofs.Common.{◌≡◌, map, take, Bor}
use Rattle.uc_fact.specs.declared.fact.Fact.{Fact}
use Rattle.uc_shelf.specs.Entries.{born}
use Rattle.uc_search.proofs.facts.all_facts.Given as goal

abbrev pub invariant-loop-k : goal.invariant-loop-k
invariant-loop-k l = map (λ (f : Bor Fact). f.now) l.facts.items ≡ born (take l.k l.front.entries)
