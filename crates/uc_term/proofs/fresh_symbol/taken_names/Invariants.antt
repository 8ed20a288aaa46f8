use Rattle.std.proofs.Common.{take}
use Rattle.uc_term.specs.Gathering.{AreNamesOf}
use Rattle.uc_term.proofs.fresh_symbol.taken_names.Given as goal

abbrev pub invariant-loop-f : goal.invariant-loop-f
invariant-loop-f l = AreNamesOf l.symbols (take l.f-index l.taken) l.names
