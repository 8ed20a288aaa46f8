use Rattle.uc_certify.specs.Certifying.{AreDerivedBefore}
use Rattle.uc_certify.proofs.fact_lines.first_underived.Given as goal

abbrev pub invariant-loop-k : goal.invariant-loop-k
invariant-loop-k l = AreDerivedBefore l.numbers l.lines l.facts l.k
