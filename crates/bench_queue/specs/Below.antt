-- Every number that waits is below n, so n is new.
use Rattle.std.specs.Prelude.{ℕ, ◌<◌, List, [], ◌∷◌}
use Rattle.uc_queue.specs.declared.entry.Entry.{Entry}

abbrev pub IsBelow : ℕ → List Entry → Type 0
IsBelow n [] = Unit {0}
IsBelow n (e ∷ es) = (e.number < n) × IsBelow n es
