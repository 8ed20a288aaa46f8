use Rattle.uc_certificate.proofs.VariableNames.{AreFirst}
use Rattle.uc_certificate.proofs.terms.names_of.Given as goal

abbrev pub invariant-loop-variable : goal.invariant-loop-variable
invariant-loop-variable l = AreFirst l.names l.variable
