-- Instances of a peak from which both rules lead down.
use Rattle.std.specs.Prelude.{ℕ, ◌≡◌}
use Rattle.uc_term.specs.Tree.{Tree, apply, subterm}
use Rattle.uc_fact.specs.Live.{Rule}

-- An instance of the outer rule's side, whose part at the place is an instance of the inner rule's side, and both instances are
-- greater than those of the other sides.
pub record LeadsDownTwice (Greater : Tree → Tree → Type 0) (outer inner : Rule) (place : ℕ) : Type 0 where
  pub τ : ℕ → Tree
  pub υ : ℕ → Tree
  pub meets : apply τ (subterm outer.from place) ≡ apply υ inner.from
  pub outer_down : Greater (apply τ outer.from) (apply τ outer.to)
  pub inner_down : Greater (apply υ inner.from) (apply υ inner.to)
