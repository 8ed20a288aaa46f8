-- Facts whose numbers rise.
use Rattle.std.specs.Prelude.{ℕ, ◌+◌, ◌≤◌, Bool, true, false, List, [], ◌∷◌, nat_lt, if◌then◌else◌, refl}
use Rattle.std.proofs.Common.{◌≡◌, ap, arith}
use Rattle.std.proofs.lemmas.Bool.Decides.{nat_tests}
use Rattle.uc_term.specs.declared.equation.Equation.{Equation}
use Rattle.uc_fact.specs.Live.{RiseFrom}
use Rattle.uc_disc.specs.Numbered.{live_of, lives, risen}

pub risen_rises : (n : ℕ) (fs : List (ℕ × Equation)) → RiseFrom n (risen n fs)
risen_rises n [] = tt
risen_rises n (f ∷ fs) = go (nat_lt f.0 n) refl (risen_rises n fs) (risen_rises (f.0 + 1) fs)
  where
    go : (b : Bool) → nat_lt f.0 n ≡ b → RiseFrom n (risen n fs) → RiseFrom (f.0 + 1) (risen (f.0 + 1) fs) → RiseFrom n (if b then risen n fs else live_of f ∷ risen (f.0 + 1) fs)
    go true e r s = r
    go false e r s = (grind (arith, nat_tests), s)

pub risen_same : (n : ℕ) (fs : List (ℕ × Equation)) → RiseFrom n (lives fs) → risen n fs ≡ lives fs
risen_same n [] h = refl
risen_same n (f ∷ fs) h = go (nat_lt f.0 n) refl (risen_same (f.0 + 1) fs h.1)
  where
    go : (b : Bool) → nat_lt f.0 n ≡ b → risen (f.0 + 1) fs ≡ lives fs → (if b then risen n fs else live_of f ∷ risen (f.0 + 1) fs) ≡ live_of f ∷ lives fs
    go true e r = absurd (let k : n ≤ f.0 = h.0 in grind (arith, nat_tests))
    go false e r = ap (λ z. live_of f ∷ z) r
