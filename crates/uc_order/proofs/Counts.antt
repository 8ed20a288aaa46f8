-- Counting the symbols of a list.
use Rattle.std.proofs.Common.{◌≡◌, ◌≢◌, ℕ, zero, suc, ◌+◌, ◌<◌, ◌≤◌, ◌==◌, List, [], ◌∷◌, ◌++◌, length, take, get_or, slice_index, refl, sym, ap, subst, arith, ◌⊎◌, inl, inr, cond}
use Rattle.std.proofs.lemmas.List.Sums.{sum_by-cons, count_by-le-length}
use Rattle.std.proofs.Common.{Option, Some, None, MatchOption}
use Rattle.std.proofs.lemmas.List.{get_or_default}
use Rattle.std.proofs.lemmas.Bool.{cases_eq}
use Rattle.std.proofs.lemmas.Bool.Decides.{nat_tests}
use Rattle.std.proofs.lemmas.Grind.{take_at_read}
use Rattle.uc_term.proofs.Terms.{take_of_length-le}
use Rattle.uc_term.specs.declared.node.Sym.{Sym}
use Rattle.uc_order.specs.Members.{In, in_front, in_rest, Each, IsTwice, twice_front, twice_rest, IsFirst, first_front, first_rest, AreDistinct, times}

one : Sym → Sym → ℕ
one f g = cond (g.0 == f.0) 1 0

times-cons : (f g : Sym) (gs : List Sym) → times f (g ∷ gs) ≡ one f g + times f gs
unfolding one
times-cons f g gs = sum_by-cons (λ h. cond (h.0 == f.0) 1 0) g gs

one_same : (f : Sym) → one f f ≡ 1
unfolding one
one_same f = grind (arith, nat_tests)

one_other : (f g : Sym) → g.0 ≢ f.0 → one f g ≡ 0
unfolding one
one_other f g n = grind (arith, nat_tests)

pub same_sym : (f g : Sym) → f.0 ≡ g.0 → f ≡ g
same_sym f g e = ap (λ n. record { 0 = n }) e

pub In-times : (f : Sym) (fs : List Sym) → In fs f → 0 < times f fs
In-times f [] i = elim i [ ]
In-times f (g ∷ gs) in_front = omega (arith, times-cons g g gs, one_same g)
In-times f (g ∷ gs) (in_rest i) = omega (arith, times-cons f g gs, In-times f gs i)

pub times-In : (f : Sym) (fs : List Sym) → 0 < times f fs → In fs f
times-In f [] h = absurd (omega arith)
times-In f (g ∷ gs) h = go (cases_eq g.0 f.0) (λ n. times-In f gs (omega (arith, times-cons f g gs, one_other f g n)))
  where
    go : (g.0 ≡ f.0) ⊎ (g.0 ≡ f.0 → ⊥) → ((g.0 ≡ f.0 → ⊥) → In gs f) → In (g ∷ gs) f
    go (inl e) k = let P : Sym → Type 0 = In (g ∷ gs) in subst P (same_sym g f e) in_front
    go (inr n) k = in_rest (k n)

pub Twice-times : (f : Sym) (fs : List Sym) → IsTwice fs f → 1 < times f fs
Twice-times f [] i = elim i [ ]
Twice-times f (g ∷ gs) (twice_front i) = omega (arith, times-cons g g gs, one_same g, In-times g gs i)
Twice-times f (g ∷ gs) (twice_rest i) = omega (arith, times-cons f g gs, Twice-times f gs i)

pub times-Twice : (f : Sym) (fs : List Sym) → 1 < times f fs → IsTwice fs f
times-Twice f [] h = absurd (omega arith)
times-Twice f (g ∷ gs) h = go (cases_eq g.0 f.0) (λ n. times-Twice f gs (omega (arith, times-cons f g gs, one_other f g n)))
  where
    go : (g.0 ≡ f.0) ⊎ (g.0 ≡ f.0 → ⊥) → ((g.0 ≡ f.0 → ⊥) → IsTwice gs f) → IsTwice (g ∷ gs) f
    go (inl e) k =
        let same = same_sym g f e in
        let P : Sym → Type 0 = IsTwice (g ∷ gs) in
        let e' = ap (λ h. times h (g ∷ gs)) same in
        subst P same (twice_front (times-In g gs (omega (arith, times-cons g g gs, one_same g))))
    go (inr n) k = twice_rest (k n)

pub Each-map : {A : Type 0} (P Q : A → Type 0) (xs : List A) → ((x : A) → P x → Q x) → Each P xs → Each Q xs
Each-map P Q [] h e = tt
Each-map P Q (x ∷ xs) h e = (h x e.0, Each-map P Q xs h e.1)

pub IsFirst-map : {A : Type 0} (P Q : A → Type 0) (xs : List A) (x : A) → ((y : A) → P y → Q y) → ((y : A) → Q y → P y) → IsFirst P xs x → IsFirst Q xs x
IsFirst-map P Q [] x h k i = elim i [ ]
IsFirst-map P Q (y ∷ ys) x h k (first_front p) = first_front (h y p)
IsFirst-map P Q (y ∷ ys) x h k (first_rest n i) = first_rest (λ q. n (k y q)) (IsFirst-map P Q ys x h k i)

pub distinct_from : (fs : List Sym) → Each (λ f. times f fs ≤ 1) fs → AreDistinct fs
distinct_from [] e = tt
distinct_from (f ∷ fs) e = (
  (λ i. absurd (omega (arith, e.0, times-cons f f fs, one_same f, In-times f fs i))),
  distinct_from fs (Each-map (λ g. times g (f ∷ fs) ≤ 1) (λ g. times g fs ≤ 1) fs (λ g h. omega (arith, h, times-cons g f fs)) e.1),
)

-- tests in a loop
pub Each-push : {A : Type 0} (P : A → Type 0) (xs : List A) (x : A) → Each P xs → P x → Each P (xs ++ x ∷ [])
Each-push P [] x e p = (p, tt)
Each-push P (y ∷ ys) x e p = (e.0, Each-push P ys x e.1 p)

pub each_more : {A : Type 0} (P : A → Type 0) (xs : List A) (i : ℕ) (d : A) → i < length xs → Each P (take i xs) → P (get_or xs i d) → Each P (take (i + 1) xs)
each_more {A = A} P xs i d h e p = let Q : List A → Type 0 = Each P in subst Q (sym (take_at_read xs i d h).1) (Each-push P (take i xs) (get_or xs i d) e p)

pub each_all : {A : Type 0} (P : A → Type 0) (xs : List A) (i : ℕ) → length xs ≤ i → Each P (take i xs) → Each P xs
each_all {A = A} P xs i h e = let Q : List A → Type 0 = Each P in subst Q (take_of_length-le xs i h) e

pub first_at : {A : Type 0} (P Q : A → Type 0) (xs : List A) (i : ℕ) (d : A) → ((x : A) → Q x → P x → ⊥) → i < length xs → Each Q (take i xs) → P (get_or xs i d) → IsFirst P xs (get_or xs i d)
first_at P Q [] i d n h e p = absurd (omega arith)
first_at P Q (x ∷ xs) zero d n h e p = first_front p
first_at P Q (x ∷ xs) (suc i) d n h e p = first_rest (n x e.0) (first_at P Q xs i d n (omega arith) e.1 p)

length-take_most : {A : Type 0} (i : ℕ) (xs : List A) → length (take i xs) ≤ i
length-take_most zero xs = omega arith
length-take_most (suc i) [] = omega arith
length-take_most (suc i) (x ∷ xs) = omega (arith, length-take_most i xs)

pub times_taken : (f : Sym) (fs : List Sym) (i : ℕ) → times f (take i fs) ≤ i
times_taken f fs i = omega (arith, count_by-le-length (λ g. g.0 == f.0) (take i fs), length-take_most i fs)

pub none_is : (P : Type 0) (Q : Sym → Type 0) (o : Option Sym) → MatchOption o P Q → ((f : Sym) → o ≡ Some f → ⊥) → P
none_is P Q None m n = m
none_is P Q (Some f) m n = absurd (n f refl)

zero_or_more : (n : ℕ) → (n ≡ 0) ⊎ (0 < n)
zero_or_more n = grind arith

not_counted : (counts : List ℕ) (fs : List Sym) → ((f : Sym) → slice_index counts f.0 ≡ times f fs) → (g : Sym) → (In fs g → ⊥) → slice_index counts g.0 ≡ 0
not_counted counts fs h g n = go (zero_or_more (slice_index counts g.0))
  where
    go : (slice_index counts g.0 ≡ 0) ⊎ (0 < slice_index counts g.0) → slice_index counts g.0 ≡ 0
    go (inl e) = e
    go (inr l) = absurd (n (times-In g fs (omega (arith, h g))))

-- what a table of the counts of a list says
module _ (fs : List Sym) (counts : List ℕ) (h : (f : Sym) → slice_index counts f.0 ≡ times f fs) where
  pub present : (xs : List Sym) → Each (λ (f : Sym). 0 < slice_index counts f.0) xs → Each (In fs) xs
  present xs e = Each-map (λ (f : Sym). 0 < slice_index counts f.0) (In fs) xs (λ f q. times-In f fs (omega (arith, h f))) e

  pub absent : (xs : List Sym) (f : Sym) → IsFirst (λ (g : Sym). slice_index counts g.0 ≡ 0) xs f → IsFirst (λ g. In fs g → ⊥) xs f
  absent xs f i = IsFirst-map (λ (g : Sym). slice_index counts g.0 ≡ 0) (λ g. In fs g → ⊥) xs f (λ g e q. absurd (omega (arith, h g, In-times g fs q))) (λ g n. not_counted counts fs h g n) i

  pub doubled : (f : Sym) → IsFirst (λ (g : Sym). 1 < slice_index counts g.0) fs f → IsFirst (IsTwice fs) fs f
  doubled f i = IsFirst-map (λ (g : Sym). 1 < slice_index counts g.0) (IsTwice fs) fs f (λ g l. times-Twice g fs (omega (arith, h g))) (λ g t. omega (arith, h g, Twice-times g fs t)) i

  pub distinct : Each (λ (f : Sym). slice_index counts f.0 ≤ 1) fs → AreDistinct fs
  distinct e = distinct_from fs (Each-map (λ (f : Sym). slice_index counts f.0 ≤ 1) (λ f. times f fs ≤ 1) fs (λ f q. omega (arith, h f)) e)

pub each_at : {A : Type 0} (P : A → Type 0) (xs : List A) (i : ℕ) (d : A) → i < length xs → Each P xs → P (get_or xs i d)
each_at P [] i d h e = absurd (omega arith)
each_at P (x ∷ xs) zero d h e = e.0
each_at P (x ∷ xs) (suc i) d h e = each_at P xs i d (omega arith) e.1

-- one more of a symbol can be counted
pub counted_below : (fs : List Sym) (i n x : ℕ) (counts : List ℕ) (d : Sym) → i < length fs → Each (λ (f : Sym). f.0 < n) fs → length counts ≡ n → ((f : Sym) → slice_index counts f.0 ≡ times f (take i fs)) → x ≡ get_or counts (get_or fs i d).0 x → x ≤ i
counted_below fs i n x counts d h e l k q =
    let f = get_or fs i d in
    let below = each_at (λ (f : Sym). f.0 < n) fs i d h e in
    omega (arith, q, get_or_default counts f.0 x 0 (omega arith), k f, times_taken f fs i)
