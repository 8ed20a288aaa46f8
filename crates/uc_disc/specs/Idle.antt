-- Rules that are read from a side that is embedded in their other side.
use Rattle.std.specs.Prelude.{ℕ, ◌≡◌, ◌<◌, ◌≤◌, Bool, false, IsTrue, List, length, slice_get, slice_index_or, Some}
use Rattle.uc_fact.specs.Live.{Rule}
use Rattle.uc_fact.specs.Embedding.{Embedded}
use Rattle.uc_disc.specs.declared.place.Label.TheVariants.{Leaf}
use Rattle.uc_disc.specs.declared.place.Place.{Place}
use Rattle.uc_disc.specs.Heads.{IsRoot}

-- the rule of this number is read from a side that is embedded in its other side
abbrev pub IsIdle : List Rule → ℕ → Type 0
IsIdle rules r = (rule : Rule) → slice_get rules r ≡ Some rule → Embedded rule.from rule.to

-- only such rules are marked
abbrev pub AreIdleRules : List Rule → List Bool → Type 0
AreIdleRules rules marks = (r : ℕ) → IsTrue (slice_index_or marks r false) → IsIdle rules r

-- a branch of the root, or the end, before which all leaves are those of such rules
pub record AreIdle (rules : List Rule) (ps : List Place) (end : ℕ) : Type 0 where
  pub within : end ≤ length ps
  pub root : IsRoot ps end
  pub idle : (j : ℕ) (p : Place) (r : ℕ) → j < end → slice_get ps j ≡ Some p → p.label ≡ Leaf r → IsIdle rules r
