-- A place of a term has one path.
use Rattle.std.proofs.Common.{◌≡◌, ℕ, zero, suc, List, [], ◌∷◌, Option, Some, None, option_and_then, refl, sym, ap, ◌∙◌}
use Rattle.uc_term.specs.Tree.{Tree, var, app, Trees, none, more, subterm}
use Rattle.uc_term.specs.Path.{nth, change, at_position, put_position}
use Rattle.uc_term.specs.Positions.{IsPlaceOf}

there : (o : Option Tree) (p : List ℕ) (u : Tree) → option_and_then (λ v. at_position v p) o ≡ Some u → (a : Tree) × (o ≡ Some a) × (at_position a p ≡ Some u)
there None p u e = cc
there (Some a) p u e = (a, refl, e)

different : (t : Tree) → ((w : Tree) → w ≡ t) → ⊥
different t h = let q : var 0 ≡ var 1 = h (var 0) ∙ sym (h (var 1)) in cc

-- what is put into a term somewhere changes it
mutual
  changes : (p : List ℕ) (t u : Tree) → at_position t p ≡ Some u → ((w : Tree) → put_position t p w ≡ t) → ⊥
  changes [] t u e h = different t h
  changes (zero ∷ p) t u e h = absurd cc
  changes (suc i ∷ p) (var x) u e h = absurd cc
  changes (suc i ∷ p) (app f ts) u e h = let s = there (nth ts i) p u e in changes_in p ts i s.0 u s.1 s.2 (λ w. let q = h w in cc)

  changes_in : (p : List ℕ) (ts : Trees) (i : ℕ) (t u : Tree) → nth ts i ≡ Some t → at_position t p ≡ Some u → ((w : Tree) → change (λ a. put_position a p w) ts i ≡ ts) → ⊥
  changes_in p none i t u n e h = absurd cc
  changes_in p (more a ts) zero t u n e h = let same : a ≡ t = cc in changes p a u (ap (λ x. at_position x p) same ∙ e) (λ w. let q = h w in cc)
  changes_in p (more a ts) (suc i) t u n e h = changes_in p ts i t u n e (λ w. let q = h w in cc)

mutual
  one_position : (p q : List ℕ) (t u v : Tree) → at_position t p ≡ Some u → at_position t q ≡ Some v → ((w : Tree) → put_position t p w ≡ put_position t q w) → p ≡ q
  one_position [] [] t u v e f h = refl
  one_position [] (zero ∷ q) t u v e f h = absurd cc
  one_position [] (suc j ∷ q) (var x) u v e f h = absurd cc
  one_position [] (suc j ∷ q) (app g ts) u v e f h = let z = h (var 0) in absurd cc
  one_position (zero ∷ p) q t u v e f h = absurd cc
  one_position (suc i ∷ p) [] (var x) u v e f h = absurd cc
  one_position (suc i ∷ p) [] (app g ts) u v e f h = let z = h (var 0) in absurd cc
  one_position (suc i ∷ p) (zero ∷ q) t u v e f h = absurd cc
  one_position (suc i ∷ p) (suc j ∷ q) (var x) u v e f h = absurd cc
  one_position (suc i ∷ p) (suc j ∷ q) (app g ts) u v e f h =
      let a = there (nth ts i) p u e in
      let b = there (nth ts j) q v f in
      one_in p q ts i j a.0 b.0 u v a.1 b.1 a.2 b.2 (λ w. let z = h w in cc)

  one_in : (p q : List ℕ) (ts : Trees) (i j : ℕ) (a b u v : Tree) → nth ts i ≡ Some a → nth ts j ≡ Some b → at_position a p ≡ Some u → at_position b q ≡ Some v → ((w : Tree) → change (λ x. put_position x p w) ts i ≡ change (λ x. put_position x q w) ts j) → suc i ∷ p ≡ suc j ∷ q
  one_in p q none i j a b u v n m e f h = absurd cc
  one_in p q (more t ts) zero zero a b u v n m e f h =
      let s : t ≡ a = cc in
      let r : t ≡ b = cc in
      ap (λ l. 1 ∷ l) (one_position p q t u v (ap (λ x. at_position x p) s ∙ e) (ap (λ x. at_position x q) r ∙ f) (λ w. let z = h w in cc))
  one_in p q (more t ts) zero (suc j) a b u v n m e f h = let s : t ≡ a = cc in absurd (changes p t u (ap (λ x. at_position x p) s ∙ e) (λ w. let z = h w in cc))
  one_in p q (more t ts) (suc i) zero a b u v n m e f h = let s : t ≡ b = cc in absurd (changes q t v (ap (λ x. at_position x q) s ∙ f) (λ w. let z = h w in cc))
  one_in p q (more t ts) (suc i) (suc j) a b u v n m e f h = let z = one_in p q ts i j a b u v n m e f (λ w. let y = h w in cc) in cc

pub path_once : (t : Tree) (p q : List ℕ) (k : ℕ) → IsPlaceOf t p k → IsPlaceOf t q k → p ≡ q
path_once t p q k a b = one_position p q t (subterm t k) (subterm t k) a.there b.there (λ w. sym (a.puts w) ∙ b.puts w)
