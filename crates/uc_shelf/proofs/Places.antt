-- Places one by one: the entries at them, and that they are of a shelf.
use Rattle.std.proofs.Common.{◌≡◌, ℕ, zero, suc, ◌+◌, ◌<◌, ◌≤◌, List, [], ◌∷◌, ◌++◌, length, get_or, ap, sym, ◌∙◌, subst, refl, arith, take}
use Rattle.std.specs.Prelude.{All, Some, slice_get, option_map}
use Rattle.std.proofs.lemmas.List.{length-map}
use Rattle.std.proofs.lemmas.List.Elements.{All-append}
use Rattle.std.proofs.lemmas.Option.{slice_get-map, slice_get-get_or}
use Rattle.std.proofs.Math.ListN.{get_or-map}
use Rattle.boxcar.specs.Table.{Where, Shelves, Shows, id_at}
use Rattle.uc_shelf.specs.declared.entry.Entry.{Entry}
use Rattle.uc_shelf.specs.Fronts.{AreAt}
use Rattle.uc_shelf.specs.Sights.{entries_at, homes_of}

abbrev IsHome : Shelves → ℕ × ℕ → Type 0
IsHome shelf h = h.1 ≡ id_at shelf.buckets h.0

pub nth_here : {X : Type 0} (xs ys : List X) (k : ℕ) → k < length xs → slice_get (xs ++ ys) k ≡ slice_get xs k
nth_here [] ys k h = absurd (omega (arith, h))
nth_here (x ∷ xs) ys zero h = refl
nth_here (x ∷ xs) ys (suc k) h = nth_here xs ys k (omega (arith, h))

pub nth_past : {X : Type 0} (xs ys : List X) (k m : ℕ) → k ≡ length xs + m → slice_get (xs ++ ys) k ≡ slice_get ys m
nth_past [] ys k m h = ap (slice_get ys) (let e : k ≡ m = omega (arith, h) in e)
nth_past (x ∷ xs) ys zero m h = absurd (omega (arith, h))
nth_past (x ∷ xs) ys (suc k) m h = nth_past xs ys k m (omega (arith, h))

-- what holds of all of two lists holds of each of the two

pub all_front : {X : Type 0} (P : X → Type 0) (xs ys : List X) → All P (xs ++ ys) → All P xs
all_front P [] ys h k d lt = absurd (omega (arith, lt))
all_front P (x ∷ xs) ys h zero d lt = h 0 d (omega arith)
all_front P (x ∷ xs) ys h (suc k) d lt = all_front P xs ys (λ j e less. h (suc j) e (omega (arith, less))) k d (omega (arith, lt))

pub all_back : {X : Type 0} (P : X → Type 0) (xs ys : List X) → All P (xs ++ ys) → All P ys
all_back P [] ys h = h
all_back P (x ∷ xs) ys h = all_back P xs ys (λ j e less. h (suc j) e (omega (arith, less)))

pub here_first : (shelf : Shelves) (xs ys : List (ℕ × ℕ)) → AreAt shelf (xs ++ ys) → AreAt shelf xs
here_first shelf xs ys h = all_front (IsHome shelf) xs ys h

pub here_rest : (shelf : Shelves) (xs ys : List (ℕ × ℕ)) → AreAt shelf (xs ++ ys) → AreAt shelf ys
here_rest shelf xs ys h = all_back (IsHome shelf) xs ys h

pub here_both : (shelf : Shelves) (xs ys : List (ℕ × ℕ)) → AreAt shelf xs → AreAt shelf ys → AreAt shelf (xs ++ ys)
here_both shelf xs ys a b = All-append (IsHome shelf) xs ys a b

pub here_one : (shelf : Shelves) (h : ℕ × ℕ) → IsHome shelf h → AreAt shelf (h ∷ [])
here_one shelf h is zero d lt = is
here_one shelf h is (suc k) d lt = absurd (omega (arith, lt))

-- a place whose home is one of those of the shelf is of the shelf
pub home_here : (shelf : Shelves) (homes : List (ℕ × ℕ)) (k b r : ℕ) → AreAt shelf homes → k < length homes → slice_get homes k ≡ Some (b, r) → r ≡ id_at shelf.buckets b
home_here shelf homes k b r all lt is =
    let h = all k (b, r) lt in
    let same : Some (get_or homes k (b, r)) ≡ Some (b, r) = sym (slice_get-get_or homes k (b, r) lt) ∙ is in
    let e : get_or homes k (b, r) ≡ (b, r) = cc in
    subst (IsHome shelf) e h

pub within_some : {X : Type 0} (xs : List X) (k : ℕ) (x : X) → slice_get xs k ≡ Some x → k < length xs
within_some [] k x h = absurd (cc)
within_some (y ∷ xs) zero x h = omega arith
within_some (y ∷ xs) (suc k) x h = omega (arith, within_some xs k x h)

pub to_shows : (shelf : Shelves) (ps : List (Where Entry)) → AreAt shelf (homes_of ps) → All (λ p. Shows shelf p) ps
to_shows shelf ps all k d lt =
    let f : Where Entry → ℕ × ℕ = λ p. (p.bucket, p.row) in
    let lt' : k < length (homes_of ps) = rw length-map lt in
    subst (IsHome shelf) (get_or-map f ps k d) (all k (f d) lt')

pub to_homes : (shelf : Shelves) (ps : List (Where Entry)) → All (λ p. Shows shelf p) ps → AreAt shelf (homes_of ps)
to_homes shelf [] all k h lt = absurd (omega (arith, lt))
to_homes shelf (p ∷ ps) all zero h lt = all 0 p (omega arith)
to_homes shelf (p ∷ ps) all (suc k) h lt = to_homes shelf ps (λ j d less. all (suc j) d (omega (arith, less))) k h (omega (arith, lt))

pub entry_here : (ps : List (Where Entry)) (k : ℕ) (p : Where Entry) → k < length ps → p ≡ get_or ps k p → Some p.value ≡ slice_get (entries_at ps) k
entry_here ps k p lt is =
    let f : Where Entry → Entry = λ p. p.value in
    sym (slice_get-map f ps k ∙ ap (option_map f) (slice_get-get_or ps k p lt) ∙ ap (λ q. Some (f q)) (sym is))

pub length_front : {X : Type 0} (k : ℕ) (xs : List X) → k ≤ length xs → k ≡ length (take k xs)
length_front zero xs h = refl
length_front (suc k) [] h = absurd (omega (arith, h))
length_front (suc k) (x ∷ xs) h = ap suc (length_front k xs (omega (arith, h)))

get_front : {X : Type 0} (xs : List X) (k : ℕ) (x : X) → slice_get xs k ≡ Some x → take (k + 1) xs ≡ take k xs ++ x ∷ []
get_front [] k x e = absurd cc
get_front (y ∷ ys) zero x e = (let same : y ≡ x = cc in ap (λ z. z ∷ []) same)
get_front (y ∷ ys) (suc k) x e = (let s : suc k + 1 ≡ suc (k + 1) = omega arith in rw s (ap (λ z. y ∷ z) (get_front ys k x e)))

-- equal fronts, and equal elements behind them
pub front_more : {X : Type 0} (xs ys : List X) (k : ℕ) (x y : X) → slice_get xs k ≡ Some x → slice_get ys k ≡ Some y → x ≡ y → take k xs ≡ take k ys → take (k + 1) xs ≡ take (k + 1) ys
front_more xs ys k x y a b e h = get_front xs k x a ∙ ap (λ z. z ++ x ∷ []) h ∙ ap (λ z. take k ys ++ z ∷ []) e ∙ sym (get_front ys k y b)
