-- A sequence of numbers that look random.
use Rattle.std.specs.Prelude.{ℕ, zero, suc, ◌+◌, ◌*◌, ◌/◌, ◌%◌, ◌^◌}

-- the state after this one
abbrev pub next : ℕ → ℕ
next x = (x * 1103515245 + 12345) % 2 ^ 31

-- the number that is drawn in a state
abbrev pub drawn : ℕ → ℕ
drawn x = x / 65536

-- the state so many steps after the start
abbrev pub after : ℕ → ℕ → ℕ
after start zero = start
after start (suc k) = next (after start k)

-- the number at this place of the sequence, from 0 on: each is drawn after a step
abbrev pub number_at : ℕ → ℕ → ℕ
number_at start k = drawn (after start (k + 1))
