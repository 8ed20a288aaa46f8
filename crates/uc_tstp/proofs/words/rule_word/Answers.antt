use Rattle.std.proofs.Common.{arith, sym}
use Rattle.uc_clause.specs.declared.terminal.Terminal.TheVariants.{Lower}
use Rattle.uc_clause.proofs.Ends.{some_other}
use Rattle.uc_tstp.specs.Lines.{is_rule, is_no_rule, is_no_word}
use Rattle.uc_tstp.proofs.words.rule_word.Goals as goal

pub returns-then-not-stands_at-clause-stops : goal.returns-then-not-stands_at-clause-stops
returns-then-not-stands_at-clause-stops c = is_no_word c.if-not-stands_at.ensures

pub overflow_add-result : goal.overflow_add-result
overflow_add-result c = omega (arith, some_other c.args.bytes.now c.args.tokens.now c.args.at Lower c.if-not-stands_at.ensures (λ e. cc))

pub returns-in-Some-clause-ok : goal.returns-in-Some-clause-ok
returns-in-Some-clause-ok c = is_rule c.if-not-stands_at.ensures (sym (rw c.spelling_at.ensures at c.in-Some.ensures))

pub returns-in-None-clause-stops : goal.returns-in-None-clause-stops
returns-in-None-clause-stops c = is_no_rule c.if-not-stands_at.ensures (sym (rw c.spelling_at.ensures at c.in-None.ensures))
