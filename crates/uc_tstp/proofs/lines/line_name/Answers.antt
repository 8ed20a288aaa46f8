use Rattle.std.proofs.Common.{arith, sym}
use Rattle.uc_clause.specs.declared.terminal.Terminal.TheVariants.{Lower}
use Rattle.uc_clause.proofs.Ends.{some_other}
use Rattle.uc_tstp.specs.Lines.{is_new, is_repeated, is_no_line_name}
use Rattle.uc_tstp.proofs.lines.line_name.Goals as goal

pub returns-then-not-stands_at-clause-stops : goal.returns-then-not-stands_at-clause-stops
returns-then-not-stands_at-clause-stops c = is_no_line_name c.if-not-stands_at.ensures

pub returns-then-contains-clause-stops : goal.returns-then-contains-clause-stops
returns-then-contains-clause-stops c = is_repeated c.if-not-stands_at.ensures (sym (rw c.spelling_at.ensures at c.if-contains.ensures))

pub overflow_add-result : goal.overflow_add-result
overflow_add-result c = omega (arith, some_other c.args.bytes.now c.args.tokens.now c.args.at Lower c.if-not-stands_at.ensures (λ e. cc))

pub returns-clause-reads : goal.returns-clause-reads
returns-clause-reads c = is_new c.if-not-stands_at.ensures (sym (rw c.spelling_at.ensures at c.if-contains.ensures))
