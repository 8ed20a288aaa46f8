use Rattle.std.proofs.Common.{◌≡◌, take, drop, find, filter_map, is_none}
use Rattle.uc_ordering.specs.Numbers.{symbol_in}
use Rattle.uc_ordering.proofs.options.symbols_named.Given as goal

abbrev pub invariant-loop-name : goal.invariant-loop-name
invariant-loop-name l = (l.list.items ≡ filter_map (symbol_in l.by_name.map.entries) (take l.name-index l.names)) × (find (λ name. is_none (symbol_in l.by_name.map.entries name)) l.names ≡ find (λ name. is_none (symbol_in l.by_name.map.entries name)) (drop l.name-index l.names))
