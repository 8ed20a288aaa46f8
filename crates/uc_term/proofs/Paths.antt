-- Laws of subterms by paths.
use Rattle.std.proofs.Common.{◌≡◌, ◌≢◌, ℕ, zero, suc, List, [], ◌∷◌, ◌++◌, Option, Some, None, option_and_then, refl, sym, ap, ◌∙◌}
use Rattle.uc_term.specs.Tree.{Tree, var, app, Trees, none, more, apply, apply_all}
use Rattle.uc_term.specs.Path.{nth, argument, change, change_argument, at, put_at}

nth-change : (g : Tree → Tree) (ts : Trees) (i : ℕ) (t : Tree) → nth ts i ≡ Some t → nth (change g ts i) i ≡ Some (g t)
nth-change g none i t e = cc
nth-change g (more u ts) zero t e = ap Some (ap g cc)
nth-change g (more u ts) (suc i) t e = nth-change g ts i t e

nth-change_other : (g : Tree → Tree) (ts : Trees) (i j : ℕ) → i ≢ j → nth (change g ts i) j ≡ nth ts j
nth-change_other g none i j ne = refl
nth-change_other g (more u ts) zero zero ne = absurd (ne refl)
nth-change_other g (more u ts) zero (suc j) ne = refl
nth-change_other g (more u ts) (suc i) zero ne = refl
nth-change_other g (more u ts) (suc i) (suc j) ne = nth-change_other g ts i j (λ e. ne (ap suc e))

change-same : (g : Tree → Tree) (ts : Trees) (i : ℕ) (t : Tree) → nth ts i ≡ Some t → g t ≡ t → change g ts i ≡ ts
change-same g none i t e h = refl
change-same g (more u ts) zero t e h = let same : u ≡ t = cc in ap (λ v. more v ts) (ap g same ∙ h ∙ sym same)
change-same g (more u ts) (suc i) t e h = ap (more u) (change-same g ts i t e h)

change-change : (g h : Tree → Tree) (ts : Trees) (i : ℕ) → change g (change h ts i) i ≡ change (λ t. g (h t)) ts i
change-change g h none i = refl
change-change g h (more t ts) zero = refl
change-change g h (more t ts) (suc i) = ap (more t) (change-change g h ts i)

change-change_other : (g h : Tree → Tree) (ts : Trees) (i j : ℕ) → i ≢ j → change g (change h ts j) i ≡ change h (change g ts i) j
change-change_other g h none i j ne = refl
change-change_other g h (more t ts) zero zero ne = absurd (ne refl)
change-change_other g h (more t ts) zero (suc j) ne = refl
change-change_other g h (more t ts) (suc i) zero ne = refl
change-change_other g h (more t ts) (suc i) (suc j) ne = ap (more t) (change-change_other g h ts i j (λ e. ne (ap suc e)))

argument-change : (g : Tree → Tree) (t : Tree) (i : ℕ) (a : Tree) → argument t i ≡ Some a → argument (change_argument g t i) i ≡ Some (g a)
argument-change g (var x) i a e = cc
argument-change g (app f ts) i a e = nth-change g ts i a e

go_on : (p : List ℕ) (o : Option Tree) (u : Tree) → option_and_then (λ v. at v p) o ≡ Some u → (a : Tree) × (o ≡ Some a) × (at a p ≡ Some u)
go_on p None u e = cc
go_on p (Some a) u e = (a, refl, e)

-- what was put is there
pub at-put : (p : List ℕ) (t u v : Tree) → at t p ≡ Some u → at (put_at t p v) p ≡ Some v
at-put [] t u v e = refl
at-put (i ∷ p) t u v e =
    let s = go_on p (argument t i) u e in
    ap (option_and_then (λ w. at w p)) (argument-change (λ a. put_at a p v) t i s.0 s.1) ∙ at-put p s.0 u v s.2

-- the term that was there, put back
pub put-at : (p : List ℕ) (t u : Tree) → at t p ≡ Some u → put_at t p u ≡ t
put-at [] t u e = sym (let same : t ≡ u = cc in same)
put-at (i ∷ p) (var x) u e = refl
put-at (i ∷ p) (app f ts) u e =
    let s = go_on p (nth ts i) u e in
    ap (app f) (change-same (λ a. put_at a p u) ts i s.0 s.1 (put-at p s.0 u s.2))

change-ext : (g h : Tree → Tree) (ts : Trees) (i : ℕ) → ((t : Tree) → g t ≡ h t) → change g ts i ≡ change h ts i
change-ext g h none i e = refl
change-ext g h (more t ts) zero e = ap (λ v. more v ts) (e t)
change-ext g h (more t ts) (suc i) e = ap (more t) (change-ext g h ts i e)

-- the last of two replacements stays
pub put-put : (p : List ℕ) (t u v : Tree) → put_at (put_at t p u) p v ≡ put_at t p v
put-put [] t u v = refl
put-put (i ∷ p) (var x) u v = refl
put-put (i ∷ p) (app f ts) u v = ap (app f) (change-change (λ a. put_at a p v) (λ a. put_at a p u) ts i ∙ change-ext (λ a. put_at (put_at a p u) p v) (λ a. put_at a p v) ts i (λ a. put-put p a u v))

-- replacements under different arguments of one node commute
pub put-put_apart : (i j : ℕ) (p q : List ℕ) (t u v : Tree) → i ≢ j → put_at (put_at t (i ∷ p) u) (j ∷ q) v ≡ put_at (put_at t (j ∷ q) v) (i ∷ p) u
put-put_apart i j p q (var x) u v ne = refl
put-put_apart i j p q (app f ts) u v ne = ap (app f) (change-change_other (λ a. put_at a q v) (λ a. put_at a p u) ts j i (λ e. ne (sym e)))

nth-apply : (σ : ℕ → Tree) (ts : Trees) (i : ℕ) (t : Tree) → nth ts i ≡ Some t → nth (apply_all σ ts) i ≡ Some (apply σ t)
nth-apply σ none i t e = cc
nth-apply σ (more u ts) zero t e = ap Some (ap (apply σ) cc)
nth-apply σ (more u ts) (suc i) t e = nth-apply σ ts i t e

-- a subterm of an instance, and a replacement in an instance
pub at-apply : (σ : ℕ → Tree) (p : List ℕ) (t u : Tree) → at t p ≡ Some u → at (apply σ t) p ≡ Some (apply σ u)
at-apply σ [] t u e = ap Some (ap (apply σ) cc)
at-apply σ (i ∷ p) (var x) u e = cc
at-apply σ (i ∷ p) (app f ts) u e =
    let s = go_on p (nth ts i) u e in
    ap (option_and_then (λ w. at w p)) (nth-apply σ ts i s.0 s.1) ∙ at-apply σ p s.0 u s.2

change-apply : (σ : ℕ → Tree) (g h : Tree → Tree) (ts : Trees) (i : ℕ) (t : Tree) → nth ts i ≡ Some t → apply σ (g t) ≡ h (apply σ t) → apply_all σ (change g ts i) ≡ change h (apply_all σ ts) i
change-apply σ g h none i t e k = cc
change-apply σ g h (more u ts) zero t e k = let same : u ≡ t = cc in ap (λ v. more v (apply_all σ ts)) (ap (λ v. apply σ (g v)) same ∙ k ∙ ap (λ v. h (apply σ v)) (sym same))
change-apply σ g h (more u ts) (suc i) t e k = ap (more (apply σ u)) (change-apply σ g h ts i t e k)

pub apply-put : (σ : ℕ → Tree) (p : List ℕ) (t u v : Tree) → at t p ≡ Some u → apply σ (put_at t p v) ≡ put_at (apply σ t) p (apply σ v)
apply-put σ [] t u v e = refl
apply-put σ (i ∷ p) (var x) u v e = cc
apply-put σ (i ∷ p) (app f ts) u v e =
    let s = go_on p (nth ts i) u e in
    ap (app f) (change-apply σ (λ a. put_at a p v) (λ a. put_at a p (apply σ v)) ts i s.0 s.1 (apply-put σ p s.0 u v s.2))

-- a path in two parts
pub at-append : (p q : List ℕ) (t : Tree) → at t (p ++ q) ≡ option_and_then (λ u. at u q) (at t p)
at-append [] q t = refl
at-append (i ∷ p) q t = go (argument t i) (at-append p q)
  where
    go : (o : Option Tree) → ((a : Tree) → at a (p ++ q) ≡ option_and_then (λ u. at u q) (at a p)) → option_and_then (λ u. at u (p ++ q)) o ≡ option_and_then (λ u. at u q) (option_and_then (λ u. at u p) o)
    go None h = refl
    go (Some a) h = h a
