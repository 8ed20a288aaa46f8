use Rattle.std.proofs.Common.{◌++◌, List, drop}
use Rattle.uc_fact.specs.declared.ac_facts.AcFacts.{AcFacts}
use Rattle.uc_ac.specs.Found.{Gathers}
use Rattle.uc_ac.proofs.joining.facts_of_terms.Given as goal

abbrev pub invariant-loop-number : goal.invariant-loop-number
invariant-loop-number g l = (final : List AcFacts) → Gathers (g.I.Index.live l.index) (drop l.number-index l.number-items) final → Gathers (g.I.Index.live l.index) l.number-items (l.list.items ++ final)
