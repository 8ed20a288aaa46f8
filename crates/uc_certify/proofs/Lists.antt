-- Lists, one item after another, and their members.
use Rattle.std.proofs.Common.{◌≡◌, ℕ, zero, suc, ◌+◌, ◌<◌, ◌≤◌, ◌⊎◌, inl, inr, Bool, true, false, IsTrue, ◌↔◌, Result, Ok, Err, IfOk, Option, Some, None, MatchOption, List, [], ◌∷◌, ◌++◌, length, take, drop, get_or, refl, sym, ap, ◌∙◌, subst, arith}
use Rattle.std.proofs.lemmas.List.{drop_more, take_more}
use Rattle.uc_order.specs.Members.{Each, In, in_front, in_rest}

-- DECISIONS

pub never : {P : Type 0} → (P → ⊥) → IsTrue false ↔ P
never n = (λ h. absurd (let e : false ≡ true = h in cc), λ p. absurd (n p))

pub always : {P : Type 0} → P → IsTrue true ↔ P
always p = (λ h. p, λ q. refl)

pub not_of : {P : Type 0} (b : Bool) → b ≡ false → (IsTrue b ↔ P) → P → ⊥
not_of b e h p = let t : b ≡ true = h.1 p in absurd cc

pub of : {P : Type 0} (b : Bool) → b ≡ true → (IsTrue b ↔ P) → P
of b e h = h.0 e

pub same_test : {P Q E : Type 0} (r : Result Bool E) → (P → Q) → (Q → P) → IfOk r (λ b. IsTrue b ↔ P) → IfOk r (λ b. IsTrue b ↔ Q)
same_test (Ok b) f g h = (λ t. f (h.0 t), λ q. h.1 (g q))
same_test (Err e) f g h = h

pub each_test : {A P E : Type 0} {Q : A → Type 0} (r : Result Bool E) → ((a : A) → P → Q a) → ((a : A) → Q a → P) → IfOk r (λ b. IsTrue b ↔ P) → IfOk r (λ b. (a : A) → IsTrue b ↔ Q a)
each_test (Ok b) f g h = λ a. (λ t. f a (h.0 t), λ q. h.1 (g a q))
each_test (Err e) f g h = h

-- what an option that isn't there says
pub of_none : {A P : Type 0} (Q : A → Type 0) (o : Option A) → ((a : A) → o ≡ Some a → ⊥) → MatchOption o P Q → P
of_none Q None n h = h
of_none Q (Some a) n h = absurd (n a refl)

-- ONE AFTER ANOTHER

module _ {A : Type 0} where
  pub next_is : (xs : List A) (i : ℕ) (x : A) → i < length xs → x ≡ get_or xs i x → drop i xs ≡ x ∷ drop (i + 1) xs
  next_is xs i x h e = drop_more xs i x h ∙ ap (λ s. s ∷ drop (i + 1) xs) (sym e)

  pub none_left : (xs : List A) (i : ℕ) → length xs ≤ i → drop i xs ≡ []
  none_left [] zero h = refl
  none_left [] (suc i) h = refl
  none_left (x ∷ l) zero h = absurd (omega arith)
  none_left (x ∷ l) (suc i) h = none_left l i (omega arith)

  pub taken_more : (xs : List A) (i : ℕ) (x : A) → i < length xs → x ≡ get_or xs i x → take (i + 1) xs ≡ take i xs ++ x ∷ []
  taken_more xs i x h e = take_more xs i x h ∙ ap (λ s. take i xs ++ s ∷ []) (sym e)

  pub taken_all : (xs : List A) (i : ℕ) → length xs ≤ i → take i xs ≡ xs
  taken_all [] zero h = refl
  taken_all [] (suc i) h = refl
  taken_all (x ∷ l) zero h = absurd (omega arith)
  taken_all (x ∷ l) (suc i) h = ap (λ s. x ∷ s) (taken_all l i (omega arith))

  module _ (P : A → Type 0) where
    pub each_append : (xs ys : List A) → Each P xs → Each P ys → Each P (xs ++ ys)
    each_append [] ys a b = b
    each_append (x ∷ xs) ys a b = (a.0, each_append xs ys a.1 b)

    pub each_next : (xs : List A) (i : ℕ) (x : A) → i < length xs → x ≡ get_or xs i x → P x → Each P (take i xs) → Each P (take (i + 1) xs)
    each_next xs i x h e p all = subst (Each P) (sym (taken_more xs i x h e)) (each_append (take i xs) (x ∷ []) all (p, tt))

    pub each_end : (xs : List A) (i : ℕ) → length xs ≤ i → Each P (take i xs) → Each P xs
    each_end xs i h all = subst (Each P) (taken_all xs i h) all

    pub each_at : (xs : List A) (i : ℕ) (x : A) → Each P xs → i < length xs → x ≡ get_or xs i x → P x
    each_at [] i x all h e = absurd (omega arith)
    each_at (y ∷ ys) zero x all h e = subst P (sym e) all.0
    each_at (y ∷ ys) (suc i) x all h e = each_at ys i x all.1 (omega arith) e

  -- by the item at a place, whatever stands for one past the end
  pub get_member : (xs : List A) (i : ℕ) (d : A) → i < length xs → In xs (get_or xs i d)
  get_member [] i d h = absurd (omega arith)
  get_member (x ∷ xs) zero d h = in_front
  get_member (x ∷ xs) (suc i) d h = in_rest (get_member xs i d (omega arith))

  pub each_get : (P : A → Type 0) (xs : List A) (i : ℕ) (d : A) → Each P xs → i < length xs → P (get_or xs i d)
  each_get P [] i d all h = absurd (omega arith)
  each_get P (x ∷ xs) zero d all h = all.0
  each_get P (x ∷ xs) (suc i) d all h = each_get P xs i d all.1 (omega arith)

  pub each_more : (P : A → Type 0) (xs : List A) (i : ℕ) (d : A) → i < length xs → P (get_or xs i d) → Each P (take i xs) → Each P (take (i + 1) xs)
  each_more P xs i d h p all = subst (Each P) (sym (take_more xs i d h)) (each_append P (take i xs) (get_or xs i d ∷ []) all (p, tt))

  -- MEMBERS

  pub in_left : {xs : List A} (ys : List A) {x : A} → In xs x → In (xs ++ ys) x
  in_left ys in_front = in_front
  in_left ys (in_rest i) = in_rest (in_left ys i)

  pub in_last : (xs : List A) (x : A) → In (xs ++ x ∷ []) x
  in_last [] x = in_front
  in_last (y ∷ ys) x = in_rest (in_last ys x)

  pub in_split : (xs : List A) (y x : A) → In (xs ++ y ∷ []) x → In xs x ⊎ (y ≡ x)
  in_split [] y _ in_front = inr refl
  in_split [] y x (in_rest i) = elim i [ ]
  in_split (z ∷ zs) y _ in_front = inl in_front
  in_split (z ∷ zs) y x (in_rest i) = go (in_split zs y x i)
    where
      go : In zs x ⊎ (y ≡ x) → In (z ∷ zs) x ⊎ (y ≡ x)
      go (inl j) = inl (in_rest j)
      go (inr e) = inr e

  pub each_of_in : (P : A → Type 0) (xs : List A) → ((x : A) → In xs x → P x) → Each P xs
  each_of_in P [] h = tt
  each_of_in P (x ∷ xs) h = (h x in_front, each_of_in P xs (λ y i. h y (in_rest i)))

  pub in_each : (P : A → Type 0) (xs : List A) → Each P xs → (x : A) → In xs x → P x
  in_each P [] all x i = elim i [ ]
  in_each P (y ∷ ys) all _ in_front = all.0
  in_each P (y ∷ ys) all x (in_rest i) = in_each P ys all.1 x i
