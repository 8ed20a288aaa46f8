-- What searches in lists find, and lists whose elements are all different.
use Rattle.std.proofs.Common.{cond, ◌≡◌, ℕ, zero, suc, ◌+◌, List, [], ◌∷◌, ◌++◌, length, Bool, true, false, ◌||◌, get_or, slice_get, Some, None, refl, sym, ap, ◌∙◌, arith, ◌⊎◌, inl, inr}
use Rattle.uc_term.proofs.Gets.{get_pushed}
use Rattle.std.specs.List.{list_any, position, position_from}
use Rattle.std.proofs.lemmas.List.Quantifiers.{position-Some}
use Rattle.std.proofs.lemmas.Iterator.Adapters.{position_from-zero}
use Rattle.std.proofs.lemmas.Option.{slice_get-get_or}

or_none : (a b : Bool) → (a || b) ≡ false → (a ≡ false) × (b ≡ false)
or_none true b e = absurd (grind arith)
or_none false b e = (refl, e)

module _ {A : Type 0} (test : A → Bool) where
  pub any_none : (xs : List A) (i : ℕ) (x : A) → list_any test xs ≡ false → slice_get xs i ≡ Some x → test x ≡ true → ⊥
  any_none [] i x e at passes = absurd cc
  any_none (y ∷ xs) zero x e at passes =
      let here : y ≡ x = cc in
      absurd (let both : true ≡ false = sym passes ∙ ap test (sym here) ∙ (or_none (test y) (list_any test xs) e).0 in cc)
  any_none (y ∷ xs) (suc i) x e at passes = any_none xs i x (or_none (test y) (list_any test xs) e).1 at passes

  pub position_at : (xs : List A) (i : ℕ) → position test xs ≡ Some i → (x : A) × (slice_get xs i ≡ Some x) × (test x ≡ true)
  position_at [] i e = absurd cc
  position_at (y ∷ xs) i e =
      let p = position-Some test (y ∷ xs) i y e in
      (get_or (y ∷ xs) i y, slice_get-get_or (y ∷ xs) i y p.0, p.1)

  none_from : (xs : List A) (n : ℕ) → position_from test n xs ≡ None → (i : ℕ) (x : A) → slice_get xs i ≡ Some x → test x ≡ true → ⊥
  none_from [] n e i x at passes = absurd cc
  none_from (y ∷ xs) n e i x at passes = go (test y) refl (none_from xs (n + 1)) e i at
    where
      go : (b : Bool) → test y ≡ b → (position_from test (n + 1) xs ≡ None → (i : ℕ) (x : A) → slice_get xs i ≡ Some x → test x ≡ true → ⊥) → cond b (Some n) (position_from test (n + 1) xs) ≡ None → (i : ℕ) → slice_get (y ∷ xs) i ≡ Some x → ⊥
      go true h later e i at = absurd cc
      go false h later e zero at = let here : y ≡ x = cc in absurd (let both : true ≡ false = sym passes ∙ ap test (sym here) ∙ h in cc)
      go false h later e (suc i) at = later e i x at passes

  pub position_none : (xs : List A) → position test xs ≡ None → (i : ℕ) (x : A) → slice_get xs i ≡ Some x → test x ≡ true → ⊥
  position_none xs e = none_from xs 0 (sym (position_from-zero test xs) ∙ e)

abbrev pub AllDiffer : {A : Type 0} → List A → Type 0
AllDiffer {A} xs = (i j : ℕ) (x : A) → slice_get xs i ≡ Some x → slice_get xs j ≡ Some x → i ≡ j

-- a new element leaves them different
pub differ_push : {A : Type 0} (xs : List A) (y : A) → AllDiffer xs → ((i : ℕ) → slice_get xs i ≡ Some y → ⊥) → AllDiffer (xs ++ y ∷ [])
differ_push xs y d new i j x p q = both (get_pushed xs y i x p) (get_pushed xs y j x q)
  where
    both : (slice_get xs i ≡ Some x) ⊎ ((i ≡ length xs) × (x ≡ y)) → (slice_get xs j ≡ Some x) ⊎ ((j ≡ length xs) × (x ≡ y)) → i ≡ j
    both (inl a) (inl b) = d i j x a b
    both (inl a) (inr b) = absurd (new i (a ∙ ap Some b.1))
    both (inr a) (inl b) = absurd (new j (b ∙ ap Some a.1))
    both (inr a) (inr b) = a.0 ∙ sym b.0
