use Rattle.std.proofs.Common.{sym, ◌∙◌}
use Rattle.uc_table.proofs.Values.{row_long}
use Rattle.uc_table.proofs.reading.values_at.Goals as goal

pub returns-in-Some-2-clause-many : goal.returns-in-Some-2-clause-many
returns-in-Some-2-clause-many c = row_long c.args.size c.args.count c.in-Some.line.now c.in-Some-2.row (sym c.in_ok-row.ensures ∙ c.in-Some-2.is)
