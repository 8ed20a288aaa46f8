-- A relation between a subterm and what takes its place is that relation at one place of the whole terms.
use Rattle.std.proofs.Common.{◌≡◌, ℕ, zero, suc, List, [], ◌∷◌, Option, Some, None, option_and_then, refl, subst}
use Rattle.uc_term.specs.Tree.{Tree, app, Trees, none, more}
use Rattle.uc_term.specs.Path.{nth, change, at_position, put_position}
use Rattle.uc_term.specs.Within.{Within, at_root, under, WithinOne, at_first, at_later}

module _ (R : Tree → Tree → Type 0) where
  within_one : (ts : Trees) (i : ℕ) (a : Tree) (g : Tree → Tree) → nth ts i ≡ Some a → Within R a (g a) → WithinOne R ts (change g ts i)
  within_one none i a g e w = absurd cc
  within_one (more t ts) zero a g e w = let same : a ≡ t = cc in at_first (subst (λ (x : Tree). Within R x (g x)) same w)
  within_one (more t ts) (suc i) a g e w = at_later (within_one ts i a g e w)

  go_on : (p : List ℕ) (o : Option Tree) (u : Tree) → option_and_then (λ v. at_position v p) o ≡ Some u → (a : Tree) × (o ≡ Some a) × (at_position a p ≡ Some u)
  go_on p None u e = absurd cc
  go_on p (Some a) u e = (a, refl, e)

  pub within_at : (p : List ℕ) (t u w : Tree) → at_position t p ≡ Some u → R u w → Within R t (put_position t p w)
  within_at [] t u w e r = let same : u ≡ t = cc in subst (λ (x : Tree). Within R x w) same (at_root r)
  within_at (suc i ∷ p) (app f ts) u w e r =
      let s = go_on p (nth ts i) u e in
      under (within_one ts i s.0 (λ a. put_position a p w) s.1 (within_at p s.0 u w s.2 r))
  within_at v t u w e r = absurd cc
