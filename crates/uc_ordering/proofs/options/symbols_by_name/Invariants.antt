use Rattle.std.proofs.Common.{◌≡◌, ◌≤◌, ℕ, List, length, drop}
use Rattle.uc_term.specs.Signatures.{first_named}
use Rattle.uc_ordering.specs.Numbers.{symbol_in}
use Rattle.uc_ordering.proofs.options.symbols_by_name.Given as goal

abbrev pub invariant-loop-place : goal.invariant-loop-place
invariant-loop-place l = (l.place ≤ length l.own) × ((name : List ℕ) → symbol_in l.by_name.map.entries name ≡ first_named l.symbols name (drop l.place l.own))

abbrev pub decreases-loop-place : goal.decreases-loop-place
decreases-loop-place l = l.place
