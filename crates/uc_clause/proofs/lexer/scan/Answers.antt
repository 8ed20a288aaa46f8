use Rattle.std.proofs.Common.{rules, arith, sym, ◌∙◌}
use Rattle.uc_clause.proofs.Longest.{comment_at, lower_at, upper_at, digit_at, mark_at, stuck_at}
use Rattle.uc_clause.proofs.lexer.scan.Goals as goal

pub returns-then-b-eq37 : goal.returns-then-b-eq37
returns-then-b-eq37 c = search (rules, comment_at)

pub returns-then-is_lower : goal.returns-then-is_lower
returns-then-is_lower c = lower_at _ _ (omega arith) (sym c.is_lower.ensures ∙ c.if-is_lower.true) c.word_len.ensures.longest

pub returns-then-is_upper : goal.returns-then-is_upper
returns-then-is_upper c = upper_at _ _ (omega arith) (sym c.is_upper.ensures ∙ c.if-is_upper.true) c.word_len-then-is_upper.ensures.longest

pub returns-then-is_digit : goal.returns-then-is_digit
returns-then-is_digit c = digit_at _ _ (omega arith) (sym c.is_digit.ensures ∙ c.if-is_digit.true) c.digits_len.ensures.longest

pub returns-then-is_mark : goal.returns-then-is_mark
returns-then-is_mark c = search (rules, mark_at)

pub returns-else-is_mark : goal.returns-else-is_mark
returns-else-is_mark c = search (rules, stuck_at)
