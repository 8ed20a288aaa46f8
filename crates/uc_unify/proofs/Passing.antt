-- A pass over the places that sizes them.
use Rattle.std.proofs.Common.{◌≡◌, ℕ, ◌+◌, ◌<◌, ◌≤◌, ◌==◌, ◌||◌, Bool, true, false, List, length, get_or, count_by, refl, sym, ap, ◌∙◌, subst, arith, ◌⊎◌, inl, inr}
use Rattle.uc_term.specs.declared.node.Node.{Node}
use Rattle.uc_unify.specs.Closure.{class}
use Rattle.uc_unify.specs.Solutions.{IsStuck, IsSizing, AreSizing}

abbrev pub unsized : List ℕ → ℕ
unsized sizes = count_by (λ size. size == 0) sizes

module _ (ns : List Node) (classes : List ℕ) where
  -- fewer places have no size than at first; or the sizes are as they were, and the places from this one on are stuck
  abbrev pub Passing : List ℕ → List ℕ → Bool → ℕ → Type 0
  Passing old new true place = unsized new < unsized old
  Passing old new false place = (new ≡ old) × ((p : ℕ) → place ≤ p → p < length ns → class classes p ≡ p → get_or new p 0 ≡ 0 → IsStuck ns classes new p)

  pub pass_one : (old now new : List ℕ) (any one : Bool) (place : ℕ) → Passing old now any (place + 1) → IsSizing ns classes place now new one → Passing old new (one || any) place
  pass_one old now new true true place g s = let h : unsized now < unsized old = g in let k : unsized new < unsized now = s in omega arith
  pass_one old now new true false place g s = let h : unsized now < unsized old = g in subst (λ (l : List ℕ). unsized l < unsized old) (sym s.0) h
  pass_one old now new false true place g s = subst (λ (l : List ℕ). unsized new < unsized l) g.0 s
  pass_one old now new false false place g s = (s.0 ∙ g.0, λ p h i r z. by_place p h i r z (grind arith))
    where
      by_place : (p : ℕ) → place ≤ p → p < length ns → class classes p ≡ p → get_or new p 0 ≡ 0 → (p ≡ place) ⊎ (place + 1 ≤ p) → IsStuck ns classes new p
      by_place p h i r z (inl e) = subst (IsStuck ns classes new) (sym e) (s.1 (ap (class classes) (sym e) ∙ r ∙ e) (ap (λ x. get_or new x 0) (sym e) ∙ z))
      by_place p h i r z (inr l) = subst (λ (m : List ℕ). IsStuck ns classes m p) (sym s.0) (g.1 p l i r (subst (λ (m : List ℕ). get_or m p 0 ≡ 0) s.0 z))

  pub pass_begins : (sizes : List ℕ) → Passing sizes sizes false (length ns)
  pass_begins sizes = (refl, λ p h i r z. absurd (omega arith))

  pub pass_ends : (old new : List ℕ) (any : Bool) (place : ℕ) → place ≡ 0 → Passing old new any place → AreSizing ns classes old new any
  pass_ends old new true place e g = g
  pass_ends old new false place e g = (g.0, λ p i r z. g.1 p (omega arith) i r z)
