use Rattle.std.proofs.Common.{◌≡◌, drop, find}
use Rattle.uc_ordering.specs.Numbers.{is_bad_in}
use Rattle.uc_ordering.proofs.choice.check_weights.Given as goal

abbrev pub invariant-loop-name : goal.invariant-loop-name
invariant-loop-name l = find (is_bad_in l.symbols l.words.w0 l.by_name.map.entries l.precedence) l.words.weights ≡ find (is_bad_in l.symbols l.words.w0 l.by_name.map.entries l.precedence) (drop l.name-index l.words.weights)
