use Rattle.uc_proof.proofs.FactLines.{Numbering}
use Rattle.uc_proof.proofs.plan.Plan.numbers_of.Given as goal

abbrev pub invariant-loop-fact : goal.invariant-loop-fact
invariant-loop-fact l = Numbering l.self l.facts l.fact-index l.numbers.items
