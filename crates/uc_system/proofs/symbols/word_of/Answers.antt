use Rattle.std.proofs.Common.{sym, ap, ◌∙◌}
use Rattle.uc_clause.specs.Names.{spelling}
use Rattle.uc_system.proofs.Taken.{no_word, other_spelling}
use Rattle.uc_system.proofs.symbols.word_of.Goals as goal

pub returns-then-not-is_spellable : goal.returns-then-not-is_spellable
returns-then-not-is_spellable c = no_word c.args.spelled.now c.as_bytes.result.now c.is_spellable.result (c.as_bytes.ensures ∙ c.in_ok-word.ensures) c.if-not-is_spellable.true c.is_spellable.ensures

pub returns-else-eq : goal.returns-else-eq
returns-else-eq c = other_spelling c.args.spelled.now c.in_ok-word.word c.as_bytes-3.result.now c.in_ok-word.ensures (c.as_bytes-3.ensures ∙ c.in_ok-again.ensures ∙ ap spelling c.as_bytes-2.ensures) (sym c.if-eq.ensures)
