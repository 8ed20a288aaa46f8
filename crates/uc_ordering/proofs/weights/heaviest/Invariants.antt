use Rattle.std.proofs.Common.{◌≡◌, ◌==◌, take, fold, max, unwrap_or, if◌then◌else◌}
use Rattle.uc_term.specs.Table.{name_of, arity_of}
use Rattle.uc_ordering.specs.Numbers.{number_in}
use Rattle.uc_ordering.proofs.weights.heaviest.Given as goal

abbrev pub invariant-loop-f : goal.invariant-loop-f
invariant-loop-f l = l.most ≡ fold (λ n f. if arity_of l.symbols f == 0 then max n (unwrap_or (number_in l.given.map.entries (name_of l.symbols f)) l.w0) else n) 0 (take l.f-index l.list)
