-- Where gains rise with the classes, what has no more variables from each class on has no greater sum of gains.
use Rattle.std.proofs.Common.{◌≡◌, ℕ, zero, suc, ◌+◌, ◌<◌, ◌≤◌, List, [], ◌∷◌, refl, arith, ◌⊎◌, inl, inr, sum_by, count_by, cond, Bool, true, false, nat_lt, not}
use Rattle.std.proofs.lemmas.Bool.Decides.{nat_tests}
use Rattle.std.proofs.lemmas.List.Sums.{sum_by-cons}
use Rattle.uc_order.specs.Members.{Each}
use Rattle.uc_kbo.specs.Table.{bool_cases}

one_if : Bool → ℕ
one_if b = cond b 1 0

if_both : (p q : Bool) → (p ≡ true → q ≡ true) → cond {A = ℕ} p 1 0 ≤ cond q 1 0
if_both true true h = omega arith
if_both true false h = absurd (let e = h refl in grind arith)
if_both false true h = omega arith
if_both false false h = omega arith

-- what more of them pass
count_more : (p q : ℕ → Bool) (xs : List ℕ) → Each (λ x. p x ≡ true → q x ≡ true) xs → count_by p xs ≤ count_by q xs
count_more p q [] h = omega arith
count_more p q (x ∷ xs) h = omega (arith, sum_by-cons (λ y. cond {A = ℕ} (p y) 1 0) x xs, sum_by-cons (λ y. cond {A = ℕ} (q y) 1 0) x xs, if_both (p x) (q x) h.0, count_more p q xs h.1)

Each-imp : (P Q : ℕ → Type 0) (xs : List ℕ) → ((x : ℕ) → P x → Q x) → Each P xs → Each Q xs
Each-imp P Q [] h e = tt
Each-imp P Q (x ∷ xs) h e = (h x e.0, Each-imp P Q xs h e.1)

none_pass : (p : ℕ → Bool) (xs : List ℕ) → Each (λ x. p x ≡ false) xs → count_by p xs ≡ 0
none_pass p [] h = refl
none_pass p (x ∷ xs) h = let e : cond {A = ℕ} (p x) 1 0 ≡ 0 = rw h.0 refl in omega (arith, sum_by-cons (λ y. cond {A = ℕ} (p y) 1 0) x xs, none_pass p xs h.1)

module _ (gain class : ℕ → ℕ) (Known : ℕ → Type 0) (rising : (x y : ℕ) → Known x → Known y → class x ≤ class y → gain x ≤ gain y) where
  abbrev pub from : ℕ → ℕ → Bool
  from k x = not (nat_lt (class x) k)

  abbrev above : ℕ → ℕ → Bool
  above t x = nat_lt t (gain x)

  -- of those that gain more than t, one of the least class
  record Lowest (t : ℕ) (xs : List ℕ) : Type 0 where
    one : ℕ
    known : Known one
    gains : t < gain one
    lowest : Each (λ x. t < gain x → class one ≤ class x) xs

  lower : (t x : ℕ) (xs : List ℕ) → Known x → t < gain x → (l : Lowest t xs) → (class x ≤ class l.one) ⊎ (class l.one ≤ class x) → Lowest t (x ∷ xs)
  lower t x xs k g l (inl h) = record { one = x; known = k; gains = g; lowest = (λ _. omega arith, Each-imp (λ y. t < gain y → class l.one ≤ class y) (λ y. t < gain y → class x ≤ class y) xs (λ y m n. omega (arith, m n)) l.lowest) }
  lower t x xs k g l (inr h) = record { one = l.one; known = l.known; gains = l.gains; lowest = (λ _. h, l.lowest) }

  nobody : (t : ℕ) (xs : List ℕ) → Each (λ x. above t x ≡ false) xs → (c : ℕ) → Each (λ x. t < gain x → c ≤ class x) xs
  nobody t [] h c = tt
  nobody t (x ∷ xs) h c = (λ g. absurd (let e = h.0 in grind (arith, nat_tests)), nobody t xs h.1 c)

  more_lowest : (t x : ℕ) (xs : List ℕ) → Known x → (above t x ≡ true) ⊎ (above t x ≡ false) → Each (λ x. above t x ≡ false) xs ⊎ Lowest t xs → Each (λ x. above t x ≡ false) (x ∷ xs) ⊎ Lowest t (x ∷ xs)
  more_lowest t x xs k (inl e) (inl h) = inr (record { one = x; known = k; gains = grind (arith, nat_tests); lowest = (λ _. omega arith, nobody t xs h (class x)) })
  more_lowest t x xs k (inl e) (inr l) = inr (lower t x xs k (grind (arith, nat_tests)) l (let a = class x in let b = class l.one in grind arith))
  more_lowest t x xs k (inr e) (inl h) = inl (e, h)
  more_lowest t x xs k (inr e) (inr l) = inr (record { one = l.one; known = l.known; gains = l.gains; lowest = (λ g. absurd (grind (arith, nat_tests)), l.lowest) })

  some_lowest : (t : ℕ) (xs : List ℕ) → Each Known xs → Each (λ x. above t x ≡ false) xs ⊎ Lowest t xs
  some_lowest t [] k = inl tt
  some_lowest t (x ∷ xs) k = more_lowest t x xs k.0 (bool_cases (above t x)) (some_lowest t xs k.1)

  module _ (us vs : List ℕ) (ku : Each Known us) (kv : Each Known vs) (covers : (k : ℕ) → count_by (from k) vs ≤ count_by (from k) us) where
    above_from : (t c : ℕ) (xs : List ℕ) → Each (λ x. t < gain x → c ≤ class x) xs → Each (λ x. above t x ≡ true → from c x ≡ true) xs
    above_from t c xs e = Each-imp (λ x. t < gain x → c ≤ class x) (λ x. above t x ≡ true → from c x ≡ true) xs (λ x h q. let l = h (grind (arith, nat_tests)) in grind (arith, nat_tests)) e

    from_above : (t o : ℕ) → Known o → t < gain o → (xs : List ℕ) → Each Known xs → Each (λ x. from (class o) x ≡ true → above t x ≡ true) xs
    from_above t o k g xs e = Each-imp Known (λ x. from (class o) x ≡ true → above t x ≡ true) xs (λ x h q. let le : class o ≤ class x = grind (arith, nat_tests) in let r = rising o x k h le in grind (arith, nat_tests)) e

    thresholds : (t : ℕ) → count_by (above t) vs ≤ count_by (above t) us
    thresholds t = by_lowest (some_lowest t vs kv)
      where
        by_lowest : Each (λ x. above t x ≡ false) vs ⊎ Lowest t vs → count_by (above t) vs ≤ count_by (above t) us
        by_lowest (inl n) = omega (arith, none_pass (above t) vs n)
        by_lowest (inr l) =
            omega (arith, count_more (above t) (from (class l.one)) vs (above_from t (class l.one) vs l.lowest), covers (class l.one), count_more (from (class l.one)) (above t) us (from_above t l.one l.known l.gains us ku))

    -- gains up to t
    capped : ℕ → ℕ → ℕ
    capped t x = cond (above t x) t (gain x)

    capped-suc : (t x : ℕ) → capped (suc t) x ≡ capped t x + cond (above t x) 1 0
    unfolding capped
    capped-suc t x = grind (arith, nat_tests)

    capped-zero : (x : ℕ) → capped 0 x ≡ 0
    unfolding capped
    capped-zero x = grind (arith, nat_tests)

    capped-le : (t x : ℕ) → capped t x ≤ gain x
    unfolding capped
    capped-le t x = grind (arith, nat_tests)

    capped-all : (t x : ℕ) → gain x ≤ t → capped t x ≡ gain x
    unfolding capped
    capped-all t x h = grind (arith, nat_tests)

    sum-capped-suc : (t : ℕ) (xs : List ℕ) → sum_by (capped (suc t)) xs ≡ sum_by (capped t) xs + count_by (above t) xs
    sum-capped-suc t [] = refl
    sum-capped-suc t (x ∷ xs) = omega (arith, sum-capped-suc t xs, capped-suc t x, sum_by-cons (capped (suc t)) x xs, sum_by-cons (capped t) x xs, sum_by-cons (λ y. cond {A = ℕ} (above t y) 1 0) x xs)

    sum-capped-zero : (xs : List ℕ) → sum_by (capped 0) xs ≡ 0
    sum-capped-zero [] = refl
    sum-capped-zero (x ∷ xs) = omega (arith, sum-capped-zero xs, capped-zero x, sum_by-cons (capped 0) x xs)

    sum-capped-le : (t : ℕ) (xs : List ℕ) → sum_by (capped t) xs ≤ sum_by gain xs
    sum-capped-le t [] = omega arith
    sum-capped-le t (x ∷ xs) = omega (arith, sum-capped-le t xs, capped-le t x, sum_by-cons (capped t) x xs, sum_by-cons gain x xs)

    sum-capped-all : (t : ℕ) (xs : List ℕ) → sum_by gain xs ≤ t → sum_by (capped t) xs ≡ sum_by gain xs
    sum-capped-all t [] h = refl
    sum-capped-all t (x ∷ xs) h =
        let c = sum_by-cons gain x xs in
        omega (arith, sum-capped-all t xs (omega arith), capped-all t x (omega arith), sum_by-cons (capped t) x xs)

    capped_sums : (t : ℕ) → sum_by (capped t) vs ≤ sum_by (capped t) us
    capped_sums zero = omega (arith, sum-capped-zero vs)
    capped_sums (suc t) = omega (arith, capped_sums t, thresholds t, sum-capped-suc t vs, sum-capped-suc t us)

    pub no_greater_sum : sum_by gain vs ≤ sum_by gain us
    no_greater_sum = let t = sum_by gain vs in omega (arith, capped_sums t, sum-capped-all t vs (omega arith), sum-capped-le t us)
