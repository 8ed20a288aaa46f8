-- How variables that aren't bound are looked for.
use Rattle.std.proofs.Common.{◌≡◌, ℕ, ◌+◌, ◌<◌, ◌≤◌, List, arith, subst, ◌⊎◌, inl, inr}
use Rattle.std.proofs.lemmas.Bool.{cases_lt}
use Rattle.uc_clause.specs.declared.token.Token.{Token}
use Rattle.uc_clause.specs.Meaning.{Variables}
use Rattle.uc_fof.specs.Given.{IsFree, AreBound}

module _ (bytes : List ℕ) (tokens : List Token) (bound : Variables) (from : ℕ) where
  pub bound_none : AreBound bytes tokens bound from from
  bound_none k h less = absurd (omega (arith, h, less))

  pub bound_more : (at : ℕ) → AreBound bytes tokens bound from at → (IsFree bytes tokens bound at → ⊥) → AreBound bytes tokens bound from (at + 1)
  bound_more at all n k h less f = go (cases_lt k at)
    where
      go : (k < at) ⊎ (at ≤ k) → ⊥
      go (inl l) = all k h l f
      go (inr l) = let same : k ≡ at = omega (arith, l, less) in n (subst (IsFree bytes tokens bound) same f)

  pub bound_all : (to at : ℕ) → to ≤ at → AreBound bytes tokens bound from at → AreBound bytes tokens bound from to
  bound_all to at le all k h less = all k h (omega (arith, le, less))
