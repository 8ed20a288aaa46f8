use Rattle.std.proofs.Common.{length, ◌-◌}
use Rattle.uc_clause.proofs.Lists.{Lists}
use Rattle.uc_clause.proofs.grammar.item.names_at.Given as goal

abbrev pub invariant-names : goal.invariant-names
invariant-names l = Lists l.bytes l.tokens l.from l.names.items l.at

abbrev pub decreases-names : goal.decreases-names
decreases-names l = length l.tokens - l.at
