use Rattle.std.proofs.Common.{◌≡◌, drop, map, find, is_none}
use Rattle.uc_ordering.specs.Numbers.{symbol_in}
use Rattle.uc_ordering.proofs.options.check_known.Given as goal

abbrev pub invariant-loop-name : goal.invariant-loop-name
invariant-loop-name l = find (λ name. is_none (symbol_in l.by_name.map.entries name)) (map (λ p. p.0) l.weights) ≡ find (λ name. is_none (symbol_in l.by_name.map.entries name)) (map (λ p. p.0) (drop l.name-index l.weights))
