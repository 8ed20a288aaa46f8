use Rattle.std.proofs.Common.{◌≡◌, take, map, unwrap_or}
use Rattle.uc_term.specs.Table.{name_of}
use Rattle.uc_ordering.specs.Numbers.{number_in}
use Rattle.uc_ordering.proofs.weights.weights_of.Given as goal

abbrev pub invariant-loop-f : goal.invariant-loop-f
invariant-loop-f l = l.weights.items ≡ map (λ f. unwrap_or (number_in l.given.map.entries (name_of l.symbols f)) l.w0) (take l.f-index l.list)
