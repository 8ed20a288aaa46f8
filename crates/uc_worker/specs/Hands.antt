-- What contracts see of a hand, and how many hands there are.
use Rattle.std.specs.Prelude.{ℕ, ◌+◌, ◌==◌, cond}

-- its worker, and its commits
pub record HandView : Type 0 where
  pub worker : ℕ
  pub commits : ℕ

-- how many hands so many workers have: worker 0's, who ends each round, and one for each worker with a thread; a single worker is
-- worker 0
abbrev pub hands_of : ℕ → ℕ
hands_of n = cond (n == 1) 1 (n + 1)
