-- A subterm that is replaced by a smaller term.
use Rattle.std.specs.Prelude.{ℕ, ◌≡◌}
use Rattle.uc_term.specs.Tree.{Tree, apply, subterm, put}

-- At this place one substitution makes a side the subterm of the term before, and the term behind is the one before with the
-- other side's instance in its place, which is less.
pub record FallsAt (Greater : Tree → Tree → Type 0) (from to before : Tree) (place : ℕ) (after : Tree) : Type 0 where
  pub σ : ℕ → Tree
  pub from_is : apply σ from ≡ subterm before place
  pub to_is : put before place (apply σ to) ≡ after
  pub greater : Greater (subterm before place) (apply σ to)
