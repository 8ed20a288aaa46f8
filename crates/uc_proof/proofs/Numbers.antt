-- The numbers that a map has for parts.
use Rattle.std.proofs.Common.{◌≡◌, ℕ, ◌+◌, ◌<◌, ◌↔◌, Bool, true, false, cond, List, [], ◌∷◌, ◌++◌, length, take, get_or, slice_get, Some, refl, sym, ap, ◌∙◌, subst, ◌⊎◌, inl, inr, if◌then◌else◌}
use Rattle.std.specs.Map.{lookup}
use Rattle.std.proofs.lemmas.List.{take_more}
use Rattle.indexmap.specs.IndexMap.{insert_entry}
use Rattle.uc_proof.specs.declared.part.Part.{Part}
use Rattle.uc_proof.specs.Making.{IsAmong, HasNumber, number_here, number_later}
use Rattle.uc_proof.proofs.Among.{among_either}

module _ (eq : Part → Part → Bool) (decides : (a b : Part) → (eq a b ≡ true) ↔ (a ≡ b)) (parts : List Part) where
  abbrev pub HaveNumbers : List Part → List (Part × ℕ) → Type 0
  HaveNumbers some numbers = (p : Part) → IsAmong p some → HasNumber parts p numbers

  put_own : (p : Part) (n : ℕ) (es : List (Part × ℕ)) → slice_get parts n ≡ Some p → HasNumber parts p (insert_entry eq es p n)
  put_own p n [] at = number_here refl at
  put_own p n (e ∷ es) at = go (eq p e.0) refl (put_own p n es at)
    where
      go : (b : Bool) → eq p e.0 ≡ b → HasNumber parts p (insert_entry eq es p n) → HasNumber parts p (if b then (e.0, n) ∷ es else e ∷ insert_entry eq es p n)
      go true q later = number_here (sym ((decides p e.0).0 q)) at
      go false q later = number_later (λ s. let t : true ≡ false = sym ((decides p e.0).1 (sym s)) ∙ q in cc) later

  put_other : (p r : Part) (n : ℕ) (es : List (Part × ℕ)) → (p ≡ r → ⊥) → HasNumber parts r es → HasNumber parts r (insert_entry eq es p n)
  put_other p r n _ differ (number_here {q} {n = m} {rest} s at) = go (eq p q) refl
    where
      go : (b : Bool) → eq p q ≡ b → HasNumber parts r (if b then (q, n) ∷ rest else (q, m) ∷ insert_entry eq rest p n)
      go true t = absurd (differ ((decides p q).0 t ∙ s))
      go false t = number_here s at
  put_other p r n _ differ (number_later {q} {n = m} {rest} s h) = go (eq p q) refl (put_other p r n rest differ h)
    where
      go : (b : Bool) → eq p q ≡ b → HasNumber parts r (insert_entry eq rest p n) → HasNumber parts r (if b then (q, n) ∷ rest else (q, m) ∷ insert_entry eq rest p n)
      go true t later = number_later s h
      go false t later = number_later s later

  pub numbered_more : (i : ℕ) (x d : Part) (es new : List (Part × ℕ)) → i < length parts → x ≡ get_or parts i d → slice_get parts i ≡ Some x → new ≡ insert_entry eq es x i → HaveNumbers (take i parts) es → HaveNumbers (take (i + 1) parts) new
  numbered_more i x d es new h is at e a p m = subst (HasNumber parts p) (sym e) (go (eq x p) refl)
    where
      split : IsAmong p (take i parts) ⊎ IsAmong p (x ∷ [])
      split = among_either p (take i parts) (x ∷ []) (subst (IsAmong p) (take_more parts i d h ∙ ap (λ y. take i parts ++ y ∷ []) (sym is)) m)

      go : (b : Bool) → eq x p ≡ b → HasNumber parts p (insert_entry eq es x i)
      go true q = let same : x ≡ p = (decides x p).0 q in subst (λ (r : Part). HasNumber parts r (insert_entry eq es x i)) same (put_own x i es at)
      go false q =
          let differ : (x ≡ p → ⊥) = λ s. let t : true ≡ false = sym ((decides x p).1 s) ∙ q in cc in
          put_other x p i es differ (elim split [ inl k ↦ a p k | inr k ↦ elim k [ inl s ↦ absurd (differ s) | inr n ↦ absurd n ] ])

  -- the number that is found
  pub found : (p : Part) (test : Part → Bool) → ((k : Part) → test k ≡ eq p k) → (es : List (Part × ℕ)) → HasNumber parts p es → (n : ℕ) × (lookup test es ≡ Some n) × (slice_get parts n ≡ Some p)
  found p test same _ (number_here {q} {n} {rest} s at) =
      let t : test q ≡ true = same q ∙ (decides p q).1 (sym s) in
      (n, ap (λ b. cond b (Some n) (lookup test rest)) t, at)
  found p test same _ (number_later {q} {n} {rest} s h) =
      let r = found p test same rest h in
      let t : test q ≡ false = same q ∙ other p q s in
      (r.0, ap (λ b. cond b (Some n) (lookup test rest)) t ∙ r.1, r.2)
    where
      other : (p q : Part) → (q ≡ p → ⊥) → eq p q ≡ false
      other p q differ = go (eq p q) refl
        where
          go : (b : Bool) → eq p q ≡ b → b ≡ false
          go true e = absurd (differ (sym ((decides p q).0 e)))
          go false e = refl
