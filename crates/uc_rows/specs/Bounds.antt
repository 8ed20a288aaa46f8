-- The numbers of workers are far below the ends of their types.
use Rattle.std.specs.Prelude.{ℕ, ◌<◌, ◌^◌, List, length, slice_index_or}
use Rattle.uc_machine.specs.declared.state.Numbers.{Numbers}

pub record IsSmall (n : Numbers) : Type 0 where
  pub drawn : n.drawn < 2 ^ 63
  pub commits : n.commits < 2 ^ 63
  pub reclaims : n.reclaims < 2 ^ 63

abbrev pub AreSmall : List Numbers → Type 0
AreSmall ns = (k : ℕ) (d : Numbers) → k < length ns → IsSmall (slice_index_or ns k d)
