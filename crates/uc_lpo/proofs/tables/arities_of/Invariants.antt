use Rattle.std.proofs.Common.{◌≡◌, map, take}
use Rattle.uc_term.specs.Table.{arity_of}
use Rattle.uc_lpo.proofs.tables.arities_of.Given as goal

abbrev pub invariant-loop-f : goal.invariant-loop-f
invariant-loop-f l = l.arities.items ≡ map (arity_of l.symbols) (take l.f-index l.list)
