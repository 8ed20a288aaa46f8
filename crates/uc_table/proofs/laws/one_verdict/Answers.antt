use Rattle.uc_table.proofs.VerdictOnce.{verdict_once}
use Rattle.uc_table.proofs.laws.one_verdict.Goals as goal

pub returns : goal.returns
returns c table clauses a b some x y = verdict_once table some clauses a b x y
