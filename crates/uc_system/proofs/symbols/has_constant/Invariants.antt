use Rattle.std.proofs.Common.{◌≡◌, drop}
use Rattle.uc_system.specs.Symbols.{has_constant}
use Rattle.uc_system.proofs.symbols.has_constant.Given as goal

abbrev pub invariant-loop-s : goal.invariant-loop-s
invariant-loop-s l = has_constant l.symbols (drop l.s-index l.ranked) ≡ has_constant l.symbols l.ranked
