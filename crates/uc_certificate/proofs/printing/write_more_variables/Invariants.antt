use Rattle.std.proofs.Common.{◌≡◌, ◌++◌, codes, take}
use Rattle.uc_tstp.specs.Printing.{further}
use Rattle.uc_clause.specs.Printing.{variable_text}
use Rattle.uc_certificate.proofs.printing.write_more_variables.Given as goal

abbrev pub invariant-loop-variable : goal.invariant-loop-variable
invariant-loop-variable l = (l.out ≡ l.initial.out ++ further (codes ", ") variable_text (take l.variable-index l.variables))
