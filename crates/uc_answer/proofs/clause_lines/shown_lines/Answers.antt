use Rattle.std.proofs.Common.{arith}
use Rattle.uc_answer.proofs.ClauseLines.{sides_of}
use Rattle.uc_answer.proofs.clause_lines.shown_lines.Goals as goal

pub shown_line-requires-clause-left : goal.shown_line-requires-clause-left
shown_line-requires-clause-left c = (sides_of c.args.symbols.now c.args.clauses.now c.loop-sourced.sourced-index c.sourced-item.result (omega arith) c.sourced-item.is c.requires).0

pub shown_line-requires-clause-right : goal.shown_line-requires-clause-right
shown_line-requires-clause-right c = (sides_of c.args.symbols.now c.args.clauses.now c.loop-sourced.sourced-index c.sourced-item.result (omega arith) c.sourced-item.is c.requires).1
