-- The first Upper that names no variable, among some tokens.
use Rattle.std.proofs.Common.{◌≡◌, ℕ, zero, suc, ◌+◌, ◌-◌, ◌<◌, ◌≤◌, Bool, true, false, List, Option, Some, None, refl, sym, ap, ◌∙◌, subst, arith}
use Rattle.uc_clause.specs.declared.token.Token.{Token}
use Rattle.uc_certificate.specs.JoinLines.{is_foreign, first_foreign}

module _ (bytes : List ℕ) (tokens : List Token) where
  pub foreign_step : (to at : ℕ) → at < to → is_foreign bytes tokens at ≡ false → first_foreign bytes tokens (to - at) at ≡ first_foreign bytes tokens (to - (at + 1)) (at + 1)
  foreign_step to at h f = let e : to - at ≡ suc (to - (at + 1)) = omega arith in rw (e, f) refl

  pub foreign_found : (to at : ℕ) → at < to → is_foreign bytes tokens at ≡ true → first_foreign bytes tokens (to - at) at ≡ Some at
  foreign_found to at h f = let e : to - at ≡ suc (to - (at + 1)) = omega arith in rw (e, f) refl

  pub foreign_none : (to at : ℕ) → to ≤ at → first_foreign bytes tokens (to - at) at ≡ None
  foreign_none to at h = let e : to - at ≡ 0 = omega arith in rw e refl

  by_first : (n at k : ℕ) (b : Bool) → is_foreign bytes tokens at ≡ b → first_foreign bytes tokens (suc n) at ≡ None → (first_foreign bytes tokens n (at + 1) ≡ None → at + 1 ≤ k → is_foreign bytes tokens k ≡ false) → at ≤ k → is_foreign bytes tokens k ≡ false
  by_first n at k true f e more h = absurd (let e' : Some at ≡ None = rw f at e in cc)
  by_first n at k false f e more h = or_later (k - at) refl
    where
      rest : first_foreign bytes tokens n (at + 1) ≡ None
      rest = rw f at e

      or_later : (d : ℕ) → k - at ≡ d → is_foreign bytes tokens k ≡ false
      or_later zero q = let same : at ≡ k = omega arith in subst (λ j. is_foreign bytes tokens j ≡ false) same f
      or_later (suc d) q = more rest (omega arith)

  pub none_foreign : (n at k : ℕ) → first_foreign bytes tokens n at ≡ None → at ≤ k → k < at + n → is_foreign bytes tokens k ≡ false
  none_foreign zero at k e h l = absurd (omega arith)
  none_foreign (suc n) at k e h l = by_first n at k (is_foreign bytes tokens at) refl e (λ r low. none_foreign n (at + 1) k r low (omega arith)) h
