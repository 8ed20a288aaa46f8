-- What rules give for a term, by their numbers.
use Rattle.std.specs.Prelude.{ℕ, ◌≡◌, ◌<◌, ◌≤◌, List, length, slice_get, Option, Some, None}
use Rattle.uc_term.specs.Tree.{Tree}
use Rattle.uc_unify.specs.Matching.{IsMatch}
use Rattle.uc_fact.specs.declared.index.Found.{Found}
use Rattle.uc_fact.specs.Live.{Rule}
use Rattle.uc_fact.specs.Retrieval.{found_by}
use Rattle.uc_fact.specs.Against.{HasMatch}
use Rattle.uc_disc.specs.declared.place.Label.TheVariants.{Leaf}
use Rattle.uc_disc.specs.declared.place.Place.{Place}
use Rattle.uc_disc.specs.Heads.{IsRoot}
use Rattle.uc_disc.specs.declared.search.Answer.{Answer}
use Rattle.uc_disc.specs.declared.search.Best.{Best}

module _ (Accepted : Found → Type 0) (t : Tree) (rules : List Rule) where
  -- the rule of this number gives nothing that is accepted
  abbrev pub GivesNone : ℕ → Type 0
  GivesNone k = (rule : Rule) (pairs : List (ℕ × Tree)) → slice_get rules k ≡ Some rule → IsMatch rule.from t pairs → Accepted (found_by rule pairs) → ⊥

  -- the rule of this number gives this, and it is accepted
  pub record Gives (k : ℕ) (found : Found) : Type 0 where
    pub rule : Rule
    pub pairs : List (ℕ × Tree)
    pub is : slice_get rules k ≡ Some rule
    pub is_match : IsMatch rule.from t pairs
    pub accepted : Accepted found
    pub found_is : found ≡ found_by rule pairs

  abbrev pub IsTried : ℕ → Option Found → Type 0
  IsTried k None = GivesNone k
  IsTried k (Some found) = Gives k found

  -- the first rule from a number on that gives something accepted
  abbrev pub IsFirstFrom : ℕ → Option Answer → Type 0
  IsFirstFrom from None = (k : ℕ) → from ≤ k → GivesNone k
  IsFirstFrom from (Some answer) = (from ≤ answer.rule) × Gives answer.rule answer.found × ((k : ℕ) → from ≤ k → k < answer.rule → GivesNone k)

  -- the best answer so far, below which further ones are sought
  abbrev pub IsBest : ℕ → ℕ → Option Answer → Type 0
  IsBest from bound None = length rules ≤ bound
  IsBest from bound (Some answer) = (answer.rule ≡ bound) × (from ≤ answer.rule) × Gives answer.rule answer.found

  -- the answer is no worse, and the rule is seen to
  pub record IsBetter (from rule bound : ℕ) (new : Best) : Type 0 where
    pub best : IsBest from new.bound new.answer
    pub no_worse : new.bound ≤ bound
    pub seen : from ≤ rule → rule < new.bound → GivesNone rule

  -- no leaf before a place gives anything from a number on and below a bound
  abbrev pub NoneBefore : List Place → ℕ → ℕ → ℕ → Type 0
  NoneBefore ps i from bound = (j : ℕ) (p : Place) (r : ℕ) → j < i → slice_get ps j ≡ Some p → p.label ≡ Leaf r → from ≤ r → r < bound → GivesNone r

  -- a branch of the root, or the end, before which no leaf gives anything from a number on
  pub record IsPassed (ps : List Place) (from i : ℕ) : Type 0 where
    pub root : IsRoot ps i
    pub within : i ≤ length ps
    pub none : (bound : ℕ) → NoneBefore ps i from bound

  -- the best answer of the leaves before a place
  pub record IsBestBefore (ps : List Place) (from i : ℕ) (best : Best) : Type 0 where
    pub best_is : IsBest from best.bound best.answer
    pub none : NoneBefore ps i from best.bound

-- the term is an instance of the rule's side
abbrev pub Matches : Tree → List Rule → ℕ → Type 0
Matches t rules k = (rule : Rule) → slice_get rules k ≡ Some rule → HasMatch rule.from t
