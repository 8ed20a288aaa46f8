-- What contracts see of a front: its entries, and where its places are.
use Rattle.std.specs.Prelude.{ℕ, List, map}
use Rattle.boxcar.specs.Table.{Where}
use Rattle.uc_shelf.specs.declared.entry.Entry.{Entry}

pub record Sight : Type 0 where
  pub entries : List Entry
  pub homes : List (ℕ × ℕ)

abbrev pub entries_at : List (Where Entry) → List Entry
entries_at places = map (λ p. p.value) places

-- for each place the bucket, and the name of the slot that the bucket lies in
abbrev pub homes_of : List (Where Entry) → List (ℕ × ℕ)
homes_of places = map (λ p. (p.bucket, p.row)) places
