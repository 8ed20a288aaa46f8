-- Numbers that rise, and numbers below one.
use Rattle.std.specs.Prelude.{ℕ, ◌+◌, ◌<◌, ◌≤◌, List, [], ◌∷◌}

-- the numbers rise, from n on
abbrev pub AreRising : ℕ → List ℕ → Type 0
AreRising n [] = Unit {0}
AreRising n (k ∷ ks) = (n ≤ k) × AreRising (k + 1) ks

abbrev pub AreBelow : ℕ → List ℕ → Type 0
AreBelow n [] = Unit {0}
AreBelow n (k ∷ ks) = (k < n) × AreBelow n ks
