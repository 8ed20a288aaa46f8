-- One subterm of a term replaced by another.
use Rattle.std.specs.Prelude.{ℕ, ◌≡◌, ◌<◌}
use Rattle.uc_term.specs.Tree.{Tree, apply, nodes, subterm, put}

-- The place is one of the term before; one substitution makes the side that is replaced the subterm there, and the term behind
-- is the one before with the other side's instance in its place.
pub record ReplacesAt (from to before : Tree) (place : ℕ) (after : Tree) : Type 0 where
  pub inside : place < nodes before
  pub σ : ℕ → Tree
  pub from_is : apply σ from ≡ subterm before place
  pub to_is : put before place (apply σ to) ≡ after
