use Rattle.std.proofs.Common.{sym, ◌∙◌}
use Rattle.uc_clause.proofs.Spelling.{name_test}
use Rattle.uc_clause.proofs.printer.is_name.Goals as goal

pub returns-then-is_lower : goal.returns-then-is_lower
returns-then-is_lower c = name_test c.args.word.now _ c.in-len1-up.len_at_least (sym c.is_lower.ensures ∙ c.if-is_lower.true) c.word_len.ensures.longest
