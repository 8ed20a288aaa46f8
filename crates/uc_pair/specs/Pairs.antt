-- The pair of an overlap, with the chain by the term from which both sides come.
use Rattle.std.specs.Prelude.{ℕ, ◌≡◌, ◌++◌, Bool, true, false, List, [], ◌∷◌}
use Rattle.uc_term.specs.declared.equation.Equation.{Equation}
use Rattle.uc_term.specs.declared.equation.Side.{Side}
use Rattle.uc_term.specs.declared.equation.Side.TheVariants.{Left, Right}
use Rattle.uc_term.specs.Tree.{Tree}
use Rattle.uc_term.specs.Positions.{IsPlaceOf}
use Rattle.uc_term.specs.Variables.{variables, firsts, renumbered_by}
use Rattle.uc_unify.specs.Replacing.{ReplacesAt}
use Rattle.uc_fact.specs.declared.fact.Overlap.{Overlap}
use Rattle.uc_fact.specs.declared.chain.Chain.{Chain}
use Rattle.uc_fact.specs.declared.chain.By.TheVariants.{Fact}
use Rattle.uc_fact.specs.Live.{Rule}
use Rattle.uc_pair.specs.declared.formation.Formation.{Formation}
use Rattle.uc_pair.specs.declared.formation.Formation.TheVariants.{Pair, TooLarge}
use Rattle.uc_pair.specs.Overlapping.{Overlapping, Fits, IsTooLarge, peak, left_of, right_of, overlap_at, read_from}

-- The variables of a pair's sides by first occurrence, left side first; behind them those that only the chain has, by first
-- occurrence in the chain.
abbrev pub names_of : Tree → Tree → Tree → List ℕ
names_of left right top = firsts (variables left ++ (variables right ++ variables top))

abbrev pub is_left : Side → Bool
is_left Left = true
is_left Right = false

abbrev pub is_right : Side → Bool
is_right Left = false
is_right Right = true

-- The chain goes from the left side to the peak, by the outer fact backwards at the root, and from there to the right side, by
-- the inner fact at this place.
abbrev pub chain_by : Overlap → ℕ → Tree → Tree → Tree → Chain
chain_by overlap place left top right = record {
  start = left;
  steps = record { by = Fact overlap.outer; left_to_right = is_right overlap.outer_side; position = record { 0 = 0 }; to = top }
      ∷ record { by = Fact overlap.inner; left_to_right = is_left overlap.inner_side; position = record { 0 = place }; to = right }
      ∷ [];
}

-- The two sides of a pair with their chain: the terms l, r and top with their variables numbered by first occurrence.
pub record IsNumbered (overlap : Overlap) (top l r : Tree) (there : ℕ) (left right : Tree) (chain : Chain) : Type 0 where
  pub left_is : left ≡ renumbered_by (names_of l r top) l
  pub right_is : right ≡ renumbered_by (names_of l r top) r
  pub chain_is : chain ≡ chain_by overlap there left (renumbered_by (names_of l r top) top) right

-- these are the pair's two sides with their chain, which goes by the place of the same position in the peak
pub record IsPairBy {outer inner : Rule} {place : ℕ} (o : Overlapping outer inner place) (left right : Tree) (chain : Chain) : Type 0 where
  pub path : List ℕ
  pub there : ℕ
  pub path_is : IsPlaceOf outer.from path place
  pub there_is : IsPlaceOf (peak o) path there
  pub numbered : IsNumbered (overlap_at outer inner place) (peak o) (left_of o) (right_of o) there left right chain

-- what the overlap's pair comes to
pub data IsFormation (outer inner : Rule) (place : ℕ) : Formation → Type 0 where
  forms_none : (o : Overlapping outer inner place) → IsTooLarge o → IsFormation outer inner place TooLarge
  forms_pair : {left right : Tree} {chain : Chain} (o : Overlapping outer inner place) → Fits o → IsPairBy o left right chain → IsFormation outer inner place (Pair left right chain)

abbrev pub IsPairOf : Equation → Equation → Overlap → Formation → Type 0
IsPairOf a b overlap = IsFormation (read_from overlap.outer overlap.outer_side a) (read_from overlap.inner overlap.inner_side b) overlap.position.0

-- Each step of a pair's chain replaces equals by equals: the outer rule read backwards at the root, and then the inner rule.
pub record Replays (outer inner : Rule) (overlap : Overlap) (left right : Tree) (chain : Chain) : Type 0 where
  pub top : Tree
  pub there : ℕ
  pub chain_is : chain ≡ chain_by overlap there left top right
  pub by_outer : ReplacesAt outer.to outer.from left 0 top
  pub by_inner : ReplacesAt inner.from inner.to top there right

abbrev pub ReplaysPair : Equation → Equation → Overlap → Formation → Type 0
ReplaysPair a b overlap TooLarge = Unit {0}
ReplaysPair a b overlap (Pair left right chain) = Replays (read_from overlap.outer overlap.outer_side a) (read_from overlap.inner overlap.inner_side b) overlap left right chain
