-- Lists of terms of one length, compared at the first place where they differ, are accessible where their terms are.
use Rattle.std.proofs.Common.{◌≡◌, ℕ, zero, suc, arith}
use mathlib.Core.WellFounded.{Acc}
use Rattle.uc_term.specs.Tree.{Tree, Trees, none, more, count}

module _ (Under : Tree → Tree → Type 0) where
  abbrev pub AllAcc : Trees → Type 0
  AllAcc none = Unit {0}
  AllAcc (more t ts) = Acc Under t × AllAcc ts

  -- at the first place where they differ, the left one is under the right one
  pub data FirstUnder : Trees → Trees → Type 0 where
    here : {u t : Tree} {us ts : Trees} → Under u t → FirstUnder (more u us) (more t ts)
    same : {t : Tree} {us ts : Trees} → FirstUnder us ts → FirstUnder (more t us) (more t ts)

  pub record ListUnder (n : ℕ) (us ts : Trees) : Type 0 where
    pub long : count us ≡ n
    pub accessible : AllAcc us
    pub less : FirstUnder us ts

  abbrev First : ℕ → Tree → Type 0
  First n t = (u : Tree) → Under u t → (vs : Trees) → count vs ≡ n → AllAcc vs → Acc (ListUnder (suc n)) (more u vs)

  abbrev Rest : ℕ → Tree → Trees → Type 0
  Rest n t ts = (vs : Trees) → ListUnder n vs ts → Acc (ListUnder (suc n)) (more t vs)

  step : (n : ℕ) {t : Tree} {ts us : Trees} → FirstUnder us (more t ts) → count us ≡ suc n → AllAcc us → First n t → Rest n t ts → Acc (ListUnder (suc n)) us
  step n (here {u = u} {us = us} a) e acc first rest = first u a us (omega arith) acc.1
  step n (same {us = us} d) e acc first rest = rest us (record { long = omega arith; accessible = acc.1; less = d })

  inner : (n : ℕ) (t : Tree) → First n t → (ts : Trees) → Acc (ListUnder n) ts → Acc (ListUnder (suc n)) (more t ts)
  inner n t first _ (Acc.intro ts k) = Acc.intro (more t ts) (λ us l. step n l.less l.long l.accessible first (λ vs p. inner n t first vs (k vs p)))

  outer : (n : ℕ) → ((ts : Trees) → count ts ≡ n → AllAcc ts → Acc (ListUnder n) ts) → (t : Tree) → Acc Under t → (ts : Trees) → count ts ≡ n → AllAcc ts → Acc (ListUnder (suc n)) (more t ts)
  outer n tails _ (Acc.intro t h) ts e acc = inner n t (λ u p vs e' acc'. outer n tails u (h u p) vs e' acc') ts (tails ts e acc)

  none_less : (us : Trees) → FirstUnder us none → ⊥
  none_less none d = elim d [ ]
  none_less (more u us) d = elim d [ ]

  pub lists_accessible : (n : ℕ) (ts : Trees) → count ts ≡ n → AllAcc ts → Acc (ListUnder n) ts
  lists_accessible zero none e acc = Acc.intro none (λ us l. absurd (none_less us l.less))
  lists_accessible zero (more t ts) e acc = absurd (omega arith)
  lists_accessible (suc n) none e acc = absurd (omega arith)
  lists_accessible (suc n) (more t ts) e acc = outer n (lists_accessible n) t acc.0 ts (omega arith) acc.1
