-- Terms whose variables are replaced by those that stand for them.
use Rattle.std.specs.Prelude.{ℕ}
use Rattle.uc_term.specs.Tree.{Tree, var, Trees, apply, apply_all}

module _ (represent : ℕ → ℕ) where
  abbrev pub shown : Tree → Tree
  shown t = apply (λ x. var (represent x)) t

  abbrev pub shown_all : Trees → Trees
  shown_all ts = apply_all (λ x. var (represent x)) ts
