-- The last of a list.
use Rattle.std.proofs.Common.{◌≡◌, ℕ, suc, ◌-◌, ◌==◌, List, [], ◌∷◌, length, slice_get, Some, sym, ap, ◌∙◌, arith}
use Rattle.uc_term.specs.declared.node.Sym.{Sym}
use Rattle.uc_ordering.specs.Weights.{is_last}
use Rattle.uc_ordering.specs.Choice.{ends_in_zero}

some_same : {X : Type 0} {a b : X} → Some a ≡ Some b → a ≡ b
some_same {X} {a} {b} e = cc

one_on : {X : Type 0} (x y : X) (ys : List X) → slice_get (x ∷ y ∷ ys) (length (x ∷ y ∷ ys) - 1) ≡ slice_get (y ∷ ys) (length (y ∷ ys) - 1)
one_on x y ys = let e : length (x ∷ y ∷ ys) - 1 ≡ suc (length (y ∷ ys) - 1) = omega arith in ap (slice_get (x ∷ y ∷ ys)) e

pub last_is : (fs : List Sym) (g f : Sym) → Some g ≡ slice_get fs (length fs - 1) → (g.0 == f.0) ≡ is_last fs f
last_is [] g f e = absurd cc
last_is (h ∷ []) g f e = ap (λ (k : Sym). k.0 == f.0) (some_same e)
last_is (h ∷ k ∷ ks) g f e = last_is (k ∷ ks) g f (e ∙ one_on h k ks)

pub ends_is : (ws : List ℕ) (w : ℕ) → Some w ≡ slice_get ws (length ws - 1) → ends_in_zero ws ≡ (w == 0)
ends_is [] w e = absurd cc
ends_is (v ∷ []) w e = ap (λ n. n == 0) (sym (some_same e))
ends_is (v ∷ x ∷ xs) w e = ends_is (x ∷ xs) w (e ∙ one_on v x xs)
