use Rattle.std.proofs.Common.{List, Err, subst}
use Rattle.uc_term.specs.declared.node.Sym.{Sym}
use Rattle.uc_problem.proofs.FreshMarks.{signature_has}
use Rattle.uc_table.specs.Reading.{IsReading}
use Rattle.uc_top.proofs.TabledAnswers.{read_table_told, unread_table}
use Rattle.uc_top.proofs.tabling.text_answer.Goals as goal

pub read_table-requires : goal.read_table-requires
read_table-requires c = record { has = rw c.as_slice.ensures (signature_has c.args.symbols.now c.args.problem.now c.requires.agrees) }

pub returns-in-Ok : goal.returns-in-Ok
returns-in-Ok c = read_table_told c.args.symbols.now c.args.problem.now c.args.file.now c.args.text.now c.in-Ok.table c.checked_answer.result (rw (c.in-Ok.is, c.as_slice.ensures) at c.read_table.ensures.reading) c.checked_answer.ensures

pub returns-in-Err : goal.returns-in-Err
returns-in-Err c = unread_table c.args.symbols.now c.args.problem.now c.args.file.now c.args.text.now c.in-Err.fault c.table_fault_answer.result (subst (λ (fs : List Sym). IsReading c.args.symbols.now fs c.args.text.now (Err c.in-Err.fault)) c.as_slice.ensures (rw c.in-Err.is at c.read_table.ensures.reading)) c.table_fault_answer.ensures.answer c.table_fault_answer.ensures.not_memory
