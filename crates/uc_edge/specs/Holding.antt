-- The library and the sink in memory as contracts see them.
use Rattle.std.specs.Prelude.{ℕ, List}

-- which calls are to fail, by their numbers from 1, how many calls there were, and how many failed
pub record Plan : Type 0 where
  pub failing : List ℕ
  pub calls : ℕ
  pub faults : ℕ

-- a library in memory
pub record Holding : Type 0 where
  pub files : List (List ℕ × List ℕ)
  pub plan : Plan
  -- the names at which it failed, in order
  pub failed_at : List (List ℕ)

-- a sink in memory
pub record Given : Type 0 where
  pub bytes : List ℕ
  pub room : ℕ
  pub plan : Plan
  -- the pieces that it was given, in order
  pub pieces : List (List ℕ)
