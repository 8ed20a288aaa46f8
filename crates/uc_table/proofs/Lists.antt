-- Places of lists of values.
use Rattle.std.proofs.Common.{◌≡◌, ℕ, zero, suc, ◌+◌, ◌*◌, ◌/◌, ◌%◌, ◌^◌, ◌<◌, ◌≤◌, List, [], ◌∷◌, ◌++◌, length, get_or, take, drop, set, refl, sym, ap, ap₂, ◌∙◌, subst, arith}
use Rattle.std.proofs.lemmas.List.{length_push, take_more, length-take-le, length-set, drop-set}
use Rattle.std.proofs.Math.Nat.{pow-zero, pow-suc, pow-succ', one-le-pow, pow-le-pow_right}
use Rattle.std.proofs.lemmas.Nat.{mul-add-lt, same_from_place, div-add-mod', mod_below}
use Rattle.uc_table.specs.Algebras.{place_of}
use Rattle.uc_table.specs.Tables.{AreValues}

-- parts of a list of values are values
pub taken : (size n : ℕ) (vs : List ℕ) → AreValues size vs → AreValues size (take n vs)
taken size zero vs h = tt
taken size (suc n) [] h = tt
taken size (suc n) (v ∷ vs) h = (h.0, taken size n vs h.1)

pub dropped : (size n : ℕ) (vs : List ℕ) → AreValues size vs → AreValues size (drop n vs)
dropped size zero vs h = h
dropped size (suc n) [] h = tt
dropped size (suc n) (v ∷ vs) h = dropped size n vs h.1

pub got : (size i d : ℕ) (vs : List ℕ) → AreValues size vs → i < length vs → get_or vs i d < size
got size i d [] h l = absurd (omega arith)
got size zero d (v ∷ vs) h l = h.0
got size (suc i) d (v ∷ vs) h l = got size i d vs h.1 (omega arith)

module _ (size : ℕ) where
  pub power_more : (n : ℕ) → size ^ (n + 1) ≡ size * size ^ n
  power_more n = subst (λ k. size ^ k ≡ size * size ^ n) (omega arith) (pow-succ' size n)

  pub power_some : 0 < size → (n : ℕ) → 1 ≤ size ^ n
  power_some some n = one-le-pow n size some

  pub place_below : (vs : List ℕ) → AreValues size vs → place_of size vs < size ^ length vs
  place_below [] h = rw (pow-zero size) (omega arith)
  place_below (v ∷ vs) h = rw (pow-suc size (length vs)) (mul-add-lt v (size ^ length vs) (place_of size vs) size h.0 (place_below vs h.1))

  pub place_push : (vs : List ℕ) (v : ℕ) → place_of size (vs ++ v ∷ []) ≡ place_of size vs * size + v
  place_push [] v = rw (pow-zero size) (omega arith)
  place_push (w ∷ vs) v =
      let e : place_of size (vs ++ v ∷ []) ≡ place_of size vs * size + v = place_push vs v in
      let l : size ^ length (vs ++ v ∷ []) ≡ size * size ^ length vs = ap (λ n. size ^ n) (length_push vs v) ∙ power_more (length vs) in
      rw (l, e) (omega arith)

  pub place_once : (us vs : List ℕ) → length us ≡ length vs → AreValues size us → AreValues size vs → place_of size us ≡ place_of size vs → us ≡ vs
  place_once [] [] n h k e = refl
  place_once [] (v ∷ vs) n h k e = absurd (omega arith)
  place_once (u ∷ us) [] n h k e = absurd (omega arith)
  place_once (u ∷ us) (v ∷ vs) n h k e =
      let same : length us ≡ length vs = omega arith in
      let below : place_of size us < size ^ length vs = subst (λ n. place_of size us < size ^ n) same (place_below us h.1) in
      let e' : u * size ^ length vs + place_of size us ≡ v * size ^ length vs + place_of size vs = subst (λ n. u * size ^ n + place_of size us ≡ v * size ^ length vs + place_of size vs) same e in
      let both : (u ≡ v) × (place_of size us ≡ place_of size vs) = same_from_place u (place_of size us) v (place_of size vs) (size ^ length vs) below (place_below vs k.1) e' in
      ap₂ (λ x xs. x ∷ xs) both.0 (place_once us vs same h.1 k.1 both.1)

  -- the place of a longer front of a list
  pub place_more : (vs : List ℕ) (i d : ℕ) → i < length vs → place_of size (take (i + 1) vs) ≡ place_of size (take i vs) * size + get_or vs i d
  place_more vs i d h = ap (place_of size) (take_more vs i d h) ∙ place_push (take i vs) (get_or vs i d)

  -- a longer front of values has a place below that of the whole list's length
  pub front_fits : (vs : List ℕ) (i d : ℕ) → AreValues size vs → i < length vs → place_of size (take i vs) * size + get_or vs i d < size ^ length vs
  front_fits vs i d h l =
      let some : 0 < size = omega (arith, got size i d vs h l) in
      let n : length (take (i + 1) vs) ≡ i + 1 = length-take-le (i + 1) vs (omega arith) in
      let below : place_of size (take (i + 1) vs) < size ^ length (take (i + 1) vs) = place_below (take (i + 1) vs) (taken size (i + 1) vs h) in
      let rises : size ^ length (take (i + 1) vs) ≤ size ^ length vs = pow-le-pow_right some (omega arith) in
      let e : place_of size (take (i + 1) vs) ≡ place_of size (take i vs) * size + get_or vs i d = place_more vs i d l in
      omega arith

  -- one value more in front: what is left of a place is divided by the size
  pub value_written : 0 < size → (left i j place n : ℕ) (vs : List ℕ) → j ≡ i + 1 → j ≤ length vs → AreValues size (drop j vs) → left * size ^ length (drop j vs) + place_of size (drop j vs) ≡ place → length vs ≡ n → (i ≤ length (set vs i (left % size))) × AreValues size (drop i (set vs i (left % size))) × (left / size * size ^ length (drop i (set vs i (left % size))) + place_of size (drop i (set vs i (left % size))) ≡ place) × (length (set vs i (left % size)) ≡ n)
  value_written some left i j place n vs is within values e long =
      let kept : length (set vs i (left % size)) ≡ length vs = length-set vs i (left % size) in
      let here : drop i (set vs i (left % size)) ≡ (left % size) ∷ drop j vs = subst (λ k. drop i (set vs i (left % size)) ≡ (left % size) ∷ drop k vs) (sym is) (drop-set vs i (left % size) (omega arith)) in
      let split : left / size * size + left % size ≡ left = div-add-mod' left size in
      let e' : (left / size * size + left % size) * size ^ length (drop j vs) + place_of size (drop j vs) ≡ place = subst (λ k. k * size ^ length (drop j vs) + place_of size (drop j vs) ≡ place) (sym split) e in
      let below : left % size < size = mod_below left size some in
      let front : AreValues size ((left % size) ∷ drop j vs) = (below, values) in
      let sum : left / size * size ^ length ((left % size) ∷ drop j vs) + place_of size ((left % size) ∷ drop j vs) ≡ place = rw (pow-suc size (length (drop j vs))) (omega arith) in
      (omega arith, subst (AreValues size) (sym here) front, subst (λ xs. left / size * size ^ length xs + place_of size xs ≡ place) (sym here) sum, kept ∙ long)

  -- nothing is left of the place of a whole list
  pub all_written : (left place : ℕ) (vs : List ℕ) → left * size ^ length vs + place_of size vs ≡ place → place < size ^ length vs → place_of size vs ≡ place
  all_written zero place vs e h = omega arith
  all_written (suc left) place vs e h =
      let more : suc left * size ^ length vs ≡ left * size ^ length vs + size ^ length vs = omega arith in
      absurd (omega arith)

-- how many lists there are of a length rises with the length
pub lists_rise : (size i count most : ℕ) → 0 < size → i < count → most < size ^ i * size → most < size ^ count
lists_rise size i count most some h k =
    let e : size ^ suc i ≡ size ^ i * size = pow-suc size i in
    let rises : size ^ suc i ≤ size ^ count = pow-le-pow_right some (omega arith) in
    omega arith
