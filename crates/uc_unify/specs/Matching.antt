-- What a match is: a substitution that makes a pattern a term.
use Rattle.std.specs.Prelude.{ℕ, ◌≡◌, ◌++◌, List, Bool, true, false}
use Rattle.uc_term.specs.Tree.{Tree, apply}
use Rattle.uc_term.specs.Subst.{image, domain}
use Rattle.uc_term.specs.Variables.{variables, firsts}

-- the pairs make the pattern the term, and they are those of the pattern's variables, each once, by first occurrence
pub record IsMatch (pattern term : Tree) (pairs : List (ℕ × Tree)) : Type 0 where
  pub gives : apply (image pairs) pattern ≡ term
  pub pairs_are : domain pairs ≡ firsts (variables pattern)

-- no substitution makes the pattern the term
abbrev pub HasNoMatch : Tree → Tree → Type 0
HasNoMatch pattern term = (σ : ℕ → Tree) → apply σ pattern ≡ term → ⊥

-- whether there is a match, which the pairs are then
abbrev pub IsMatched : Tree → Tree → List (ℕ × Tree) → Bool → Type 0
IsMatched pattern term pairs true = IsMatch pattern term pairs
IsMatched pattern term pairs false = HasNoMatch pattern term

-- the pairs make each pattern its term, and they are those of the variables of both, each once, by first occurrence, in
-- the left pattern first
pub record IsMatchOfBoth (left_pattern left_term right_pattern right_term : Tree) (pairs : List (ℕ × Tree)) : Type 0 where
  pub left_gives : apply (image pairs) left_pattern ≡ left_term
  pub right_gives : apply (image pairs) right_pattern ≡ right_term
  pub pairs_are : domain pairs ≡ firsts (variables left_pattern ++ variables right_pattern)

-- no substitution makes each pattern its term
abbrev pub HasNoMatchOfBoth : Tree → Tree → Tree → Tree → Type 0
HasNoMatchOfBoth left_pattern left_term right_pattern right_term =
    (σ : ℕ → Tree) → apply σ left_pattern ≡ left_term → apply σ right_pattern ≡ right_term → ⊥
