use Rattle.std.proofs.Common.{take}
use Rattle.uc_clause.specs.Meaning.{AreNames}
use Rattle.uc_clause.proofs.grammar.file.names_of.Given as goal

abbrev pub invariant-loop-at : goal.invariant-loop-at
invariant-loop-at l = AreNames l.bytes l.tokens (take l.at-index l.numbers) l.names.items
