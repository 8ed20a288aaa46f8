-- Members of lists, and lists without a double.
use Rattle.std.proofs.Common.{◌≡◌, Bool, true, false, List, [], ◌∷◌, ◌++◌, filter, refl, subst, ◌⊎◌, inl, inr, if◌then◌else◌}
use Rattle.uc_order.specs.Members.{In, in_front, in_rest, Each, AreDistinct}

module _ {A : Type 0} where
  pub In-left : (xs ys : List A) (x : A) → In xs x → In (xs ++ ys) x
  In-left [] ys x i = elim i [ ]
  In-left (x ∷ xs) ys _ in_front = in_front
  In-left (z ∷ xs) ys x (in_rest i) = in_rest (In-left xs ys x i)

  pub In-right : (xs ys : List A) (x : A) → In ys x → In (xs ++ ys) x
  In-right [] ys x i = i
  In-right (z ∷ xs) ys x i = in_rest (In-right xs ys x i)

  pub In-cases : (xs ys : List A) (x : A) → In (xs ++ ys) x → In xs x ⊎ In ys x
  In-cases [] ys x i = inr i
  In-cases (z ∷ xs) ys _ in_front = inl in_front
  In-cases (z ∷ xs) ys x (in_rest i) = elim (In-cases xs ys x i) [ inl j ↦ inl (in_rest j) | inr j ↦ inr j ]

  pub each_in : (P : A → Type 0) (xs : List A) → ((x : A) → In xs x → P x) → Each P xs
  each_in P [] h = tt
  each_in P (x ∷ xs) h = (h x in_front, each_in P xs (λ y i. h y (in_rest i)))

  pub in_each : (P : A → Type 0) (xs : List A) (x : A) → Each P xs → In xs x → P x
  in_each P [] x e i = elim i [ ]
  in_each P (x ∷ xs) _ e in_front = e.0
  in_each P (y ∷ xs) x e (in_rest i) = in_each P xs x e.1 i

  pub distinct-append : (xs ys : List A) → AreDistinct xs → AreDistinct ys → ((x : A) → In xs x → In ys x → ⊥) → AreDistinct (xs ++ ys)
  distinct-append [] ys a b h = b
  distinct-append (x ∷ xs) ys a b h = (λ i. elim (In-cases xs ys x i) [ inl j ↦ a.0 j | inr j ↦ h x in_front j ], distinct-append xs ys a.1 b (λ y i j. h y (in_rest i) j))

  pub distinct-left : (xs ys : List A) → AreDistinct (xs ++ ys) → AreDistinct xs
  distinct-left [] ys a = tt
  distinct-left (x ∷ xs) ys a = (λ i. a.0 (In-left xs ys x i), distinct-left xs ys a.1)

  pub distinct-right : (xs ys : List A) → AreDistinct (xs ++ ys) → AreDistinct ys
  distinct-right [] ys a = a
  distinct-right (x ∷ xs) ys a = distinct-right xs ys a.1

  pub distinct-apart : (xs ys : List A) → AreDistinct (xs ++ ys) → (x : A) → In xs x → In ys x → ⊥
  distinct-apart [] ys a x i j = elim i [ ]
  distinct-apart (x ∷ xs) ys a _ in_front j = a.0 (In-right xs ys x j)
  distinct-apart (z ∷ xs) ys a x (in_rest i) j = distinct-apart xs ys a.1 x i j

  pub In-filter : (p : A → Bool) (xs : List A) (x : A) → In xs x → p x ≡ true → In (filter p xs) x
  In-filter p [] x i e = elim i [ ]
  In-filter p (x ∷ xs) _ in_front e = rw e in_front
  In-filter p (y ∷ xs) x (in_rest i) e = go (p y) (In-filter p xs x i e)
    where
      go : (b : Bool) → In (filter p xs) x → In (if b then y ∷ filter p xs else filter p xs) x
      go true j = in_rest j
      go false j = j

  -- it is the first, or among the rest
  pub in_case : (y : A) (ys : List A) (x : A) (Z : Type 0) → In (y ∷ ys) x → (y ≡ x → Z) → (In ys x → Z) → Z
  in_case y ys _ Z in_front h k = h refl
  in_case y ys x Z (in_rest j) h k = k j

  pub filter-In : (p : A → Bool) (xs : List A) (x : A) → In (filter p xs) x → In xs x × (p x ≡ true)
  filter-In p [] x i = elim i [ ]
  filter-In p (y ∷ xs) x i = go (p y) refl i (filter-In p xs x)
    where
      go : (b : Bool) → p y ≡ b → In (if b then y ∷ filter p xs else filter p xs) x → (In (filter p xs) x → In xs x × (p x ≡ true)) → In (y ∷ xs) x × (p x ≡ true)
      go true e j later = in_case y (filter p xs) x (In (y ∷ xs) x × (p x ≡ true)) j (λ q. (subst (In (y ∷ xs)) q in_front, subst (λ (z : A). p z ≡ true) q e)) (λ k. let r = later k in (in_rest r.0, r.1))
      go false e j later = let r = later j in (in_rest r.0, r.1)

  pub distinct-filter : (p : A → Bool) (xs : List A) → AreDistinct xs → AreDistinct (filter p xs)
  distinct-filter p [] a = tt
  distinct-filter p (x ∷ xs) a = go (p x) (distinct-filter p xs a.1)
    where
      go : (b : Bool) → AreDistinct (filter p xs) → AreDistinct (if b then x ∷ filter p xs else filter p xs)
      go true d = (λ i. a.0 (filter-In p xs x i).0, d)
      go false d = d
