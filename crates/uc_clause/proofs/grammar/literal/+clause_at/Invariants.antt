use Rattle.std.proofs.Common.{◌-◌}
use Rattle.uc_clause.proofs.grammar.literal.+clause_at.Given as goal

abbrev pub decreases-clause_at : goal.decreases-clause_at
decreases-clause_at l = 16 - l.brackets
