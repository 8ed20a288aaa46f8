-- The classes of the variables with small numbers, noted in two tables.
use Rattle.std.specs.Prelude.{ℕ, ◌≡◌, ◌+◌, ◌<◌, List, length, slice_index}
use Rattle.uc_order.specs.VarOrders.{Classes, representative, class_of}

-- for each variable below 16 the first one of its class, and the number of its class behind so many others
pub record AreNoted (classes : Classes) (others : ℕ) (firsts numbers : List ℕ) : Type 0 where
  pub firsts_long : length firsts ≡ 16
  pub numbers_long : length numbers ≡ 16
  pub first : (x : ℕ) → x < 16 → slice_index firsts x ≡ representative classes x
  pub number : (x : ℕ) → x < 16 → slice_index numbers x ≡ others + class_of classes x
