-- The pair that the instances of renamed sides by a unifier make.
use Rattle.std.specs.Prelude.{ℕ, ◌⊎◌, List}
use Rattle.uc_term.specs.Tree.{Tree, apply, put}
use Rattle.uc_term.specs.Positions.{IsPlaceOf}
use Rattle.uc_fact.specs.declared.fact.Overlap.{Overlap}
use Rattle.uc_fact.specs.declared.chain.Chain.{Chain}
use Rattle.uc_pair.specs.declared.formation.Formation.{Formation}
use Rattle.uc_pair.specs.declared.formation.Formation.TheVariants.{Pair, TooLarge}
use Rattle.uc_pair.specs.declared.instances.RenamedApart.{RenamedApart}
use Rattle.uc_pair.specs.Overlapping.{IsLarge, IsSmall}
use Rattle.uc_pair.specs.Pairs.{IsNumbered}

-- the pair of these instances
pub record IsPairFrom (overlap : Overlap) (terms : RenamedApart) (σ : ℕ → Tree) (left right : Tree) (chain : Chain) : Type 0 where
  pub top_small : IsSmall (apply σ terms.outer_from)
  pub left_small : IsSmall (apply σ terms.outer_to)
  pub right_small : IsSmall (apply σ (put terms.outer_from overlap.position.0 terms.inner_to))
  pub path : List ℕ
  pub there : ℕ
  pub path_is : IsPlaceOf terms.outer_from path overlap.position.0
  pub there_is : IsPlaceOf (apply σ terms.outer_from) path there
  pub numbered : IsNumbered overlap (apply σ terms.outer_from) (apply σ terms.outer_to) (apply σ (put terms.outer_from overlap.position.0 terms.inner_to)) there left right chain

abbrev pub IsPairByTerms : Overlap → RenamedApart → (ℕ → Tree) → Formation → Type 0
IsPairByTerms overlap terms σ TooLarge = IsLarge (apply σ terms.outer_from) ⊎ (IsLarge (apply σ terms.outer_to) ⊎ IsLarge (apply σ (put terms.outer_from overlap.position.0 terms.inner_to)))
IsPairByTerms overlap terms σ (Pair left right chain) = IsPairFrom overlap terms σ left right chain

-- the pair of these terms
abbrev pub IsNumberedPair : Overlap → Tree → Tree → Tree → ℕ → Formation → Type 0
IsNumberedPair overlap top l r there TooLarge = ⊥
IsNumberedPair overlap top l r there (Pair left right chain) = IsNumbered overlap top l r there left right chain
