-- Equality up to a one to one renaming of variables.
use Rattle.std.specs.Prelude.{ℕ, ◌≡◌}
use Rattle.uc_term.specs.Tree.{Tree, var, apply}

-- the term with each variable renamed
abbrev pub renamed : (ℕ → ℕ) → Tree → Tree
renamed ρ t = apply (λ x. var (ρ x)) t

-- a renaming makes the pair l and r the pair l' and r', and one leads back
pub record AreVariants (l r l' r' : Tree) : Type 0 where
  pub forth : ℕ → ℕ
  pub back : ℕ → ℕ
  pub left_forth : renamed forth l ≡ l'
  pub right_forth : renamed forth r ≡ r'
  pub left_back : renamed back l' ≡ l
  pub right_back : renamed back r' ≡ r
