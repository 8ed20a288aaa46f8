-- Terms over a signature, with the variables that are allowed. Ground terms are those with none.
use Rattle.std.specs.Prelude.{ℕ, ◌≡◌}
use Rattle.uc_term.specs.declared.node.Sym.{Sym}
use Rattle.uc_term.specs.Tree.{Tree, var, app, Trees, none, more, count}

-- The signature is given by the symbols that it has and the arity of each.
module _ (has : Sym → Type 0) (arity : Sym → ℕ) where
  module _ (Known : ℕ → Type 0) where
    -- every symbol is the signature's and has as many arguments as its arity, and every variable is allowed
    abbrev mutual
      pub IsOver : Tree → Type 0
      IsOver (var x) = Known x
      IsOver (app f ts) = has f × (count ts ≡ arity f) × AreOver ts

      pub AreOver : Trees → Type 0
      AreOver none = Unit {0}
      AreOver (more t ts) = IsOver t × AreOver ts

  -- with any variables
  abbrev pub IsTerm : Tree → Type 0
  IsTerm = IsOver (λ _. Unit {0})

  -- with no variable
  abbrev pub IsGround : Tree → Type 0
  IsGround = IsOver (λ _. ⊥)

  abbrev pub AreGround : Trees → Type 0
  AreGround = AreOver (λ _. ⊥)
