-- The turns of the loops over a precedence.
use Rattle.std.proofs.Common.{◌≡◌, ◌≢◌, ℕ, zero, suc, ◌+◌, ◌<◌, ◌≤◌, ◌==◌, false, List, [], ◌∷◌, ◌++◌, length, take, drop, map, get_or, set, refl, sym, ap, ◌∙◌, subst, arith, ◌⊎◌, inl, inr, if◌then◌else◌, get_or-set_same, get_or-set_other}
use Rattle.std.proofs.lemmas.List.{length-take-le}
use Rattle.std.proofs.lemmas.Bool.{cases_eq}
use Rattle.std.proofs.lemmas.Bool.Decides.{nat_tests}
use Rattle.std.proofs.lemmas.Grind.{take_at_read}
use Rattle.uc_term.specs.declared.node.Sym.{Sym}
use Rattle.uc_order.specs.Members.{In, in_front, in_rest, Each, IsFirst, first_front, first_rest, AreDistinct}
use Rattle.uc_lpo.specs.Ranks.{moved, rank_in, rank_of, arity_in}
use Rattle.uc_lpo.specs.Places.{rank_first, rank_rest, same_sym, rank_known, known_rank, first_lowest, arity_at}
use Rattle.uc_lpo.specs.Constants.{HasConstant}
use Rattle.uc_lpo.proofs.Alike.{drop_at}
use Rattle.uc_lpo.proofs.Steps.{nothing_left}

pub Each-get : {A : Type 0} (P : A → Type 0) (xs : List A) (i : ℕ) (d : A) → Each P xs → i < length xs → P (get_or xs i d)
Each-get P [] i d e h = absurd (omega arith)
Each-get P (x ∷ xs) zero d e h = e.0
Each-get P (x ∷ xs) (suc i) d e h = Each-get P xs i d e.1 (omega arith)

pub taken : {A : Type 0} (xs : List A) (i : ℕ) (d : A) → i < length xs → take (i + 1) xs ≡ take i xs ++ get_or xs i d ∷ []
taken xs i d h = (take_at_read xs i d h).1

pub map-append : {A B : Type 0} (f : A → B) (xs ys : List A) → map f (xs ++ ys) ≡ map f xs ++ map f ys
map-append f [] ys = refl
map-append f (x ∷ xs) ys = ap (λ l. f x ∷ l) (map-append f xs ys)

pub map_more : {A B : Type 0} (f : A → B) (xs : List A) (i : ℕ) (d : A) → i < length xs → map f (take (i + 1) xs) ≡ map f (take i xs) ++ f (get_or xs i d) ∷ []
map_more f xs i d h = ap (map f) (taken xs i d h) ∙ map-append f (take i xs) (get_or xs i d ∷ [])

In_cases : {A : Type 0} {x y : A} {xs : List A} → In (y ∷ xs) x → (y ≡ x) ⊎ In xs x
In_cases in_front = inl refl
In_cases (in_rest i) = inr i

pub get_in : {A : Type 0} (xs : List A) (i : ℕ) (d : A) → i < length xs → In xs (get_or xs i d)
get_in [] i d h = absurd (omega arith)
get_in (x ∷ xs) zero d h = in_front
get_in (x ∷ xs) (suc i) d h = in_rest (get_in xs i d (omega arith))

-- a symbol at a place isn't among those before it
pub not_before : (gs : List Sym) (i : ℕ) (d : Sym) → AreDistinct gs → i < length gs → In (take i gs) (get_or gs i d) → ⊥
not_before [] i d a h j = absurd (omega arith)
not_before (g ∷ gs) zero d a h j = elim j [ ]
not_before (g ∷ gs) (suc i) d a h j = elim (In_cases j) [
  | inl e ↦ a.0 (let P : Sym → Type 0 = In gs in subst P (sym e) (get_in gs i d (omega arith)))
  | inr k ↦ not_before gs i d a.1 (omega arith) k
]

other_test : (g f : Sym) → g.0 ≢ f.0 → (g.0 == f.0) ≡ false
other_test g f n = grind (arith, nat_tests)

moved_more : (n : ℕ) → moved (n + 1) ≡ suc n + 1
moved_more n = let e : n + 1 ≡ suc n = omega arith in rw e (let k : n + 2 ≡ suc n + 1 = omega arith in k)

-- the rank in a longer precedence
pub rank_last : (gs : List Sym) (f : Sym) → (In gs f → ⊥) → rank_in (gs ++ f ∷ []) f ≡ length gs + 1
rank_last [] f n = rank_first f []
rank_last (g ∷ gs) f n =
    let ne : g.0 ≢ f.0 = λ e. n (let P : Sym → Type 0 = In (g ∷ gs) in subst P (same_sym g f e) in_front) in
    rank_rest g (gs ++ f ∷ []) f (other_test g f ne) ∙ ap moved (rank_last gs f (λ i. n (in_rest i))) ∙ moved_more (length gs)

pub rank_before : (gs : List Sym) (g f : Sym) → g.0 ≢ f.0 → rank_in (gs ++ g ∷ []) f ≡ rank_in gs f
rank_before [] g f n = rank_rest g [] f (other_test g f n)
rank_before (h ∷ gs) g f n = ap (λ r. if h.0 == f.0 then 1 else moved r) (rank_before gs g f n)

-- the loop that writes the ranks
pub ranked_more : (gs : List Sym) (i : ℕ) (d : Sym) (ranks : List ℕ) → AreDistinct gs → i < length gs → (get_or gs i d).0 < length ranks → ((f : Sym) → rank_of ranks f ≡ rank_in (take i gs) f) → (f : Sym) → rank_of (set ranks (get_or gs i d).0 (i + 1)) f ≡ rank_in (take (i + 1) gs) f
ranked_more gs i d ranks a h b e f = go (cases_eq (get_or gs i d).0 f.0)
  where
    go : ((get_or gs i d).0 ≡ f.0) ⊎ ((get_or gs i d).0 ≡ f.0 → ⊥) → rank_of (set ranks (get_or gs i d).0 (i + 1)) f ≡ rank_in (take (i + 1) gs) f
    go (inl q) =
        let last = rank_last (take i gs) (get_or gs i d) (not_before gs i d a h) in
        let at : rank_in (take (i + 1) gs) (get_or gs i d) ≡ i + 1 = ap (λ l. rank_in l (get_or gs i d)) (taken gs i d h) ∙ last ∙ ap (λ n. n + 1) (length-take-le i gs (omega arith)) in
        let there : rank_of (set ranks (get_or gs i d).0 (i + 1)) (get_or gs i d) ≡ i + 1 = get_or-set_same ranks (get_or gs i d).0 (i + 1) 0 b in
        let P : Sym → Type 0 = λ k. rank_of (set ranks (get_or gs i d).0 (i + 1)) k ≡ rank_in (take (i + 1) gs) k in
        subst P (same_sym (get_or gs i d) f q) (there ∙ sym at)
    go (inr n) = get_or-set_other ranks (get_or gs i d).0 f.0 (i + 1) 0 (λ z. n (sym z)) ∙ e f ∙ sym (ap (λ l. rank_in l f) (taken gs i d h) ∙ rank_before (take i gs) (get_or gs i d) f n)

-- the search for a constant
pub constant_here : (arity : Sym → ℕ) (gs : List Sym) (at : ℕ) → HasConstant arity (drop at gs) → at < length gs
constant_here arity gs at c = elim (cases at) [ inl h ↦ h | inr h ↦ absurd (nothing_in (let P : List Sym → Type 0 = λ l. In l c.constant in subst P (nothing_left gs at h) c.is_there)) ]
  where
    cases : (i : ℕ) → (i < length gs) ⊎ (length gs ≤ i)
    cases i = grind arith

    nothing_in : {f : Sym} → In [] f → ⊥
    nothing_in i = elim i [ ]

pub constant_on : (arity : Sym → ℕ) (gs : List Sym) (at : ℕ) (d : Sym) → at < length gs → (arity (get_or gs at d) ≡ 0 → ⊥) → HasConstant arity (drop at gs) → HasConstant arity (drop (at + 1) gs)
constant_on arity gs at d h n c = elim (In_cases (let P : List Sym → Type 0 = λ l. In l c.constant in subst P (drop_at gs at d h) c.is_there)) [
  | inl e ↦ absurd (n (ap arity e ∙ c.is_bare))
  | inr i ↦ record { constant = c.constant; is_there = i; is_bare = c.is_bare }
]

pub first_on : (P : Sym → Type 0) (gs : List Sym) (at : ℕ) (d : Sym) → at < length gs → (P (get_or gs at d) → ⊥) → ((c : Sym) → IsFirst P (drop at gs) c → IsFirst P gs c) → (c : Sym) → IsFirst P (drop (at + 1) gs) c → IsFirst P gs c
first_on P gs at d h n k c f = k c (let Q : List Sym → Type 0 = λ l. IsFirst P l c in subst Q (sym (drop_at gs at d h)) (first_rest n f))

pub first_found : (P : Sym → Type 0) (gs : List Sym) (at : ℕ) (d : Sym) → at < length gs → P (get_or gs at d) → IsFirst P (drop at gs) (get_or gs at d)
first_found P gs at d h p = let Q : List Sym → Type 0 = λ l. IsFirst P l (get_or gs at d) in subst Q (sym (drop_at gs at d h)) (first_front p)

pub each_at : {A : Type 0} (P : A → Type 0) (xs : List A) (x : A) → Each P xs → In xs x → P x
each_at P [] x e i = elim i [ ]
each_at P (_ ∷ xs) x e in_front = e.0
each_at P (y ∷ xs) x e (in_rest i) = each_at P xs x e.1 i

-- what is so of all symbols of the signature is so of those of a precedence
pub each_of : {A : Type 0} (P : A → Type 0) (xs ys : List A) → Each P xs → Each (In xs) ys → Each P ys
each_of P xs [] e k = tt
each_of P xs (y ∷ ys) e k = (each_at P xs y e k.0, each_of P xs ys e k.1)

pub constant_of : (arity : Sym → ℕ) (signature precedence : List Sym) → HasConstant arity signature → Each (In precedence) signature → HasConstant arity precedence
constant_of arity signature precedence c k = record { constant = c.constant; is_there = each_at (In precedence) signature c.constant k c.is_there; is_bare = c.is_bare }

first_in : (P : Sym → Type 0) (gs : List Sym) (c : Sym) → IsFirst P gs c → In gs c
first_in P [] c f = elim f [ ]
first_in P (_ ∷ gs) c (first_front p) = in_front
first_in P (_ ∷ gs) c (first_rest n f) = in_rest (first_in P gs c f)

first_is : (P : Sym → Type 0) (gs : List Sym) (c : Sym) → IsFirst P gs c → P c
first_is P [] c f = elim f [ ]
first_is P (_ ∷ gs) c (first_front p) = p
first_is P (_ ∷ gs) c (first_rest n f) = first_is P gs c f

-- the first constant of a precedence
module _ (arity : Sym → ℕ) (gs : List Sym) (c : Sym) (f : IsFirst (λ g. arity g ≡ 0) gs c) (arities : List ℕ) (same : arities ≡ map arity gs) where
  at_place : (g : Sym) → In gs g → arity_in gs arities g ≡ arity g
  at_place g i = ap (λ l. arity_in gs l g) same ∙ arity_at arity gs g i

  pub least_known : 0 < rank_in gs c
  least_known = rank_known gs c (first_in (λ g. arity g ≡ 0) gs c f)

  pub least_bare : arity_in gs arities c ≡ 0
  least_bare = at_place c (first_in (λ g. arity g ≡ 0) gs c f) ∙ first_is (λ g. arity g ≡ 0) gs c f

  pub least_lowest : (g : Sym) → 0 < rank_in gs g → arity_in gs arities g ≡ 0 → rank_in gs c ≤ rank_in gs g
  least_lowest g k e = let i = known_rank gs g k in first_lowest (λ h. arity h ≡ 0) gs c f g i (sym (at_place g i) ∙ e)
