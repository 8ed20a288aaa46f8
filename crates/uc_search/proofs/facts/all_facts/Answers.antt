use Rattle.std.proofs.Common.{map, Bor}
use Rattle.uc_fact.specs.declared.fact.Fact.{Fact}
use Rattle.uc_search.proofs.Births.{born_next}
use Rattle.uc_search.proofs.facts.all_facts.Goals as goal

pub loop-k-preserved : goal.loop-k-preserved
loop-k-preserved c = born_next c.args.front.now.entries c.loop-k.k c.read.result.now (map (λ (f : Bor Fact). f.now) c.loop-k.facts.items) (map (λ (f : Bor Fact). f.now) c.add_if_born.new.facts.items) c.read.ensures c.in_ok-add_if_born.ensures c.loop-k.invariant
