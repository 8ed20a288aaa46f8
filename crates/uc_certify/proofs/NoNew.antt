-- What is less has no variable that the greater term lacks: put the greater term for it, and it is a subterm of the instance.
use Rattle.std.proofs.Common.{◌≡◌, ℕ, ◌==◌, if◌then◌else◌, refl, ◌∙◌, subst, arith, ◌⊎◌, inl, inr}
use Rattle.std.proofs.lemmas.Bool.{cases_Bool, eqb-true}
use Rattle.uc_term.specs.Tree.{Tree, var, app, Trees, none, more, apply, apply_all}
use Rattle.uc_term.specs.Variables.{Occurs, is_itself, in_args, OccursIn, in_first, in_later}
use Rattle.uc_term.proofs.Terms.{apply-var}
use Rattle.uc_term.proofs.Agree.{same_if}
use Rattle.uc_order.specs.Laws.{Meaning, Laws, Inside, inside, InsideOne, is_first, in_first_one, in_later_one}
use Rattle.uc_fact.proofs.Occurring.{occurs_or_not}

-- the value of a variable that occurs is the instance or a subterm of it
mutual
  value_in : (σ : ℕ → Tree) (y : ℕ) (t : Tree) → Occurs y t → (apply σ t ≡ σ y) ⊎ Inside (apply σ t) (σ y)
  value_in σ y (var x) o = inl (at_var o)
    where
      at_var : {x : ℕ} → Occurs y (var x) → σ x ≡ σ y
      at_var is_itself = refl
  value_in σ y (app f ts) (in_args o) = inr (inside (value_in_one σ y ts o))

  value_in_one : (σ : ℕ → Tree) (y : ℕ) (ts : Trees) → OccursIn y ts → InsideOne (apply_all σ ts) (σ y)
  value_in_one σ y none o = elim o [ ]
  value_in_one σ y (more t ts) (in_first o) = here (value_in σ y t o)
    where
      here : (apply σ t ≡ σ y) ⊎ Inside (apply σ t) (σ y) → InsideOne (more (apply σ t) (apply_all σ ts)) (σ y)
      here (inl e) = subst (λ (u : Tree). InsideOne (more (apply σ t) (apply_all σ ts)) u) e is_first
      here (inr i) = in_first_one i
  value_in_one σ y (more t ts) (in_later o) = in_later_one (value_in_one σ y ts o)

-- the substitution of one variable
abbrev one : ℕ → Tree → ℕ → Tree
one y s x = if x == y then s else var x

one_there : (y : ℕ) (s : Tree) → one y s y ≡ s
one_there y s = elim (cases_Bool (y == y)) as (λ _. one y s y ≡ s) [
  | inl b ↦ rw b refl
  | inr b ↦ absurd (grind (arith, b))
]

one_elsewhere : (y : ℕ) (s : Tree) (x : ℕ) → (x ≡ y → ⊥) → one y s x ≡ var x
one_elsewhere y s x n = elim (cases_Bool (x == y)) as (λ _. one y s x ≡ var x) [
  | inl b ↦ absurd (n (eqb-true x y b))
  | inr b ↦ rw b refl
]

module _ (m : Meaning) (laws : Laws m) where
  pub no_new : (s t : Tree) → m.greater s t → (y : ℕ) → Occurs y t → Occurs y s
  no_new s t g y o = go (occurs_or_not y s)
    where
      σ : ℕ → Tree
      σ = one y s

      below : (apply σ t ≡ σ y) ⊎ Inside (apply σ t) (σ y) → m.greater s (apply σ t) → ⊥
      below (inl e) h = laws.irreflexive s (subst (m.greater s) (e ∙ one_there y s) h)
      below (inr i) h = laws.irreflexive s (laws.transitive s (apply σ t) s h (subst (m.greater (apply σ t)) (one_there y s) (laws.subterms (apply σ t) (σ y) i)))

      go : Occurs y s ⊎ (Occurs y s → ⊥) → Occurs y s
      go (inl h) = h
      go (inr n) =
          let same : apply σ s ≡ s = same_if σ var s (λ x p. one_elsewhere y s x (λ e. n (subst (λ z. Occurs z s) e p))) ∙ apply-var s in
          absurd (below (value_in σ y t o) (subst (λ (u : Tree). m.greater u (apply σ t)) same (laws.instances σ s t g)))
