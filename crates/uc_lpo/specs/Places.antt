-- Places in a precedence.
use Rattle.std.proofs.Common.{◌≡◌, ℕ, zero, suc, ◌+◌, ◌<◌, ◌≤◌, ◌==◌, Bool, true, false, List, [], ◌∷◌, map, refl, sym, ap, ◌∙◌, subst, arith, ◌⊎◌, inl, inr, if◌then◌else◌}
use Rattle.std.proofs.lemmas.Bool.Decides.{nat_tests}
use Rattle.uc_term.specs.declared.node.Sym.{Sym}
use Rattle.uc_order.specs.Members.{In, in_front, in_rest, IsFirst, first_front, first_rest}
use Rattle.uc_lpo.specs.Ranks.{moved, rank_in, arity_in}

pub same_sym : (f g : Sym) → f.0 ≡ g.0 → f ≡ g
same_sym f g e = ap (λ n. record { 0 = n }) e

test_yes : (f g : Sym) → (f.0 == g.0) ≡ true → f ≡ g
test_yes f g e = same_sym f g (grind (arith, nat_tests))

test_cases : (b : Bool) → (b ≡ true) ⊎ (b ≡ false)
test_cases true = inl refl
test_cases false = inr refl

if_yes : {A : Type 0} (b : Bool) (x y : A) → b ≡ true → (if b then x else y) ≡ x
if_yes true x y e = refl
if_yes false x y e = absurd (grind arith)

if_no : {A : Type 0} (b : Bool) (x y : A) → b ≡ false → (if b then x else y) ≡ y
if_no true x y e = absurd (grind arith)
if_no false x y e = refl

test_self : (f : Sym) → (f.0 == f.0) ≡ true
test_self f = grind (arith, nat_tests)

-- the rank of the first symbol, and of another one
pub rank_first : (f : Sym) (gs : List Sym) → rank_in (f ∷ gs) f ≡ 1
rank_first f gs = if_yes (f.0 == f.0) 1 (moved (rank_in gs f)) (test_self f)

pub rank_rest : (g : Sym) (gs : List Sym) (f : Sym) → (g.0 == f.0) ≡ false → rank_in (g ∷ gs) f ≡ moved (rank_in gs f)
rank_rest g gs f e = if_no (g.0 == f.0) 1 (moved (rank_in gs f)) e

moved_pos : (n : ℕ) → 0 < n → moved n ≡ n + 1
moved_pos zero h = absurd (omega arith)
moved_pos (suc n) h = omega arith

moved_from : (n : ℕ) → 0 < moved n → 0 < n
moved_from zero h = h
moved_from (suc n) h = omega arith

pub rank_known : (gs : List Sym) (f : Sym) → In gs f → 0 < rank_in gs f
rank_known [] f i = elim i [ ]
rank_known (_ ∷ gs) f in_front = let e = rank_first f gs in omega (arith, e)
rank_known (g ∷ gs) f (in_rest i) = elim (test_cases (g.0 == f.0)) [
  | inl e ↦ (let k = if_yes (g.0 == f.0) 1 (moved (rank_in gs f)) e in omega (arith, k))
  | inr e ↦ (let k = rank_rest g gs f e in let m = moved_pos (rank_in gs f) (rank_known gs f i) in omega (arith, k, m))
]

pub known_rank : (gs : List Sym) (f : Sym) → 0 < rank_in gs f → In gs f
known_rank [] f h = absurd (omega arith)
known_rank (g ∷ gs) f h = elim (test_cases (g.0 == f.0)) [
  | inl e ↦ subst (λ (k : Sym). In (g ∷ gs) k) (test_yes g f e) in_front
  | inr e ↦ (let k = rank_rest g gs f e in in_rest (known_rank gs f (moved_from (rank_in gs f) (omega (arith, h, k)))))
]

never : (n : ℕ) → moved n ≡ 1 → {m : ℕ} → 0 < m → m ≡ moved n → ⊥
never zero e h k = omega (arith, e, h, k)
never (suc n) e h k = omega (arith, e)

-- two symbols of one rank are one
pub rank_once : (gs : List Sym) (f g : Sym) → In gs f → In gs g → rank_in gs f ≡ rank_in gs g → f ≡ g
rank_once [] f g i j e = elim i [ ]
rank_once (h ∷ gs) f g i j e = go (test_cases (h.0 == f.0)) (test_cases (h.0 == g.0)) (λ a b. rank_once gs f g (known_rank gs f a) (known_rank gs g b))
  where
    go : ((h.0 == f.0) ≡ true) ⊎ ((h.0 == f.0) ≡ false) → ((h.0 == g.0) ≡ true) ⊎ ((h.0 == g.0) ≡ false) → (0 < rank_in gs f → 0 < rank_in gs g → rank_in gs f ≡ rank_in gs g → f ≡ g) → f ≡ g
    go (inl a) (inl b) rest = sym (test_yes h f a) ∙ test_yes h g b
    go (inl a) (inr b) rest =
        let p = if_yes (h.0 == f.0) 1 (moved (rank_in gs f)) a in
        let q = rank_rest h gs g b in
        absurd (never (rank_in gs g) (omega (arith, e, p, q)) (rank_known (h ∷ gs) g j) q)
    go (inr a) (inl b) rest =
        let p = if_yes (h.0 == g.0) 1 (moved (rank_in gs g)) b in
        let q = rank_rest h gs f a in
        absurd (never (rank_in gs f) (omega (arith, e, p, q)) (rank_known (h ∷ gs) f i) q)
    go (inr a) (inr b) rest =
        let p = rank_rest h gs f a in
        let q = rank_rest h gs g b in
        let x = moved_from (rank_in gs f) (omega (arith, p, rank_known (h ∷ gs) f i)) in
        let y = moved_from (rank_in gs g) (omega (arith, q, rank_known (h ∷ gs) g j)) in
        rest x y (omega (arith, e, p, q, moved_pos (rank_in gs f) x, moved_pos (rank_in gs g) y))

-- the first symbol that is so has the lowest rank of those that are so
pub first_lowest : (P : Sym → Type 0) (gs : List Sym) (c : Sym) → IsFirst P gs c → (g : Sym) → In gs g → P g → rank_in gs c ≤ rank_in gs g
first_lowest P [] c x g i q = elim x [ ]
first_lowest P (_ ∷ gs) c (first_front p) g i q = let e = rank_first c gs in let k = rank_known (c ∷ gs) g i in omega (arith, e, k)
first_lowest P (h ∷ gs) c (first_rest n f) g i q = elim (test_cases (h.0 == g.0)) [
  | inl e ↦ absurd (n (subst P (sym (test_yes h g e)) q))
  | inr e ↦ (
      let k = rank_rest h gs g e in
      let inside = known_rank gs g (moved_from (rank_in gs g) (omega (arith, k, rank_known (h ∷ gs) g i))) in
      let le = first_lowest P gs c f g inside q in
      let m = moved_pos (rank_in gs g) (rank_known gs g inside) in
      elim (test_cases (h.0 == c.0)) [
        | inl d ↦ (let b = if_yes (h.0 == c.0) 1 (moved (rank_in gs c)) d in omega (arith, b, rank_known (h ∷ gs) g i))
        | inr d ↦ (let b = rank_rest h gs c d in let m' = moved_pos (rank_in gs c) (rank_known gs c (first_in P gs c f)) in omega (arith, b, m', k, m, le))
      ]
      )
]
  where
    first_in : (P : Sym → Type 0) (gs : List Sym) (c : Sym) → IsFirst P gs c → In gs c
    first_in P [] c x = elim x [ ]
    first_in P (_ ∷ gs) c (first_front p) = in_front
    first_in P (_ ∷ gs) c (first_rest n f) = in_rest (first_in P gs c f)

-- where the arities are those of a function, so is what stands at a symbol's place
pub arity_at : (h : Sym → ℕ) (gs : List Sym) (f : Sym) → In gs f → arity_in gs (map h gs) f ≡ h f
arity_at h [] f i = elim i [ ]
arity_at h (_ ∷ gs) f in_front = if_yes (f.0 == f.0) (h f) (arity_in gs (map h gs) f) (test_self f)
arity_at h (g ∷ gs) f (in_rest i) = elim (test_cases (g.0 == f.0)) [
  | inl e ↦ if_yes (g.0 == f.0) (h g) (arity_in gs (map h gs) f) e ∙ ap h (test_yes g f e)
  | inr e ↦ if_no (g.0 == f.0) (h g) (arity_in gs (map h gs) f) e ∙ arity_at h gs f i
]
