-- Members of lists, and whether a symbol is one of them.
use Rattle.std.proofs.Common.{◌≡◌, ℕ, ◌==◌, Bool, true, false, List, [], ◌∷◌, ◌++◌, refl, ap, subst, ◌⊎◌, inl, inr}
use Rattle.std.proofs.lemmas.Bool.{eqb-true, eq-eqb}
use Rattle.uc_term.specs.declared.node.Sym.{Sym}
use Rattle.uc_order.specs.Members.{In, in_front, in_rest, Each}

-- what each of two lists is, the parts of the whole list are
pub Each-parts : {A : Type 0} (P : A → Type 0) (xs ys : List A) → Each P (xs ++ ys) → Each P xs × Each P ys
Each-parts P [] ys e = (tt, e)
Each-parts P (x ∷ xs) ys e = let r = Each-parts P xs ys e.1 in ((e.0, r.0), r.1)

-- it is decided whether a symbol is in a list
same_sym : (f g : Sym) → f.0 ≡ g.0 → f ≡ g
same_sym f g e = ap (λ (n : ℕ). let s : Sym = record { 0 = n } in s) e

other : (f g : Sym) (fs : List Sym) → (f.0 == g.0) ≡ false → (In fs f → ⊥) → In (g ∷ fs) f → ⊥
other f _ fs e n in_front = let q : (f.0 == f.0) ≡ true = eq-eqb f.0 f.0 refl in absurd cc
other f g fs e n (in_rest i) = n i

pub is_in : (fs : List Sym) (f : Sym) → In fs f ⊎ (In fs f → ⊥)
is_in [] f = inr (λ i. elim i [ ])
is_in (g ∷ fs) f = go (f.0 == g.0) refl (is_in fs f)
  where
    go : (b : Bool) → (f.0 == g.0) ≡ b → In fs f ⊎ (In fs f → ⊥) → In (g ∷ fs) f ⊎ (In (g ∷ fs) f → ⊥)
    go true e r = inl (subst (λ (h : Sym). In (h ∷ fs) f) (same_sym f g (eqb-true f.0 g.0 e)) in_front)
    go false e (inl i) = inl (in_rest i)
    go false e (inr n) = inr (other f g fs e n)
