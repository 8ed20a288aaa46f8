-- Substitutions that agree on the variables of a term.
use Rattle.std.proofs.Common.{◌≡◌, ℕ, refl, ap, ap₂}
use Rattle.uc_term.specs.Tree.{Tree, var, app, Trees, none, more, apply, apply_all}
use Rattle.uc_term.specs.declared.node.Sym.{Sym}
use Rattle.uc_term.specs.Variables.{Occurs, is_itself, in_args, OccursIn, in_first, in_later}

at_var : (σ τ : ℕ → Tree) (x y : ℕ) → Occurs x (var y) → σ y ≡ τ y → σ x ≡ τ x
at_var σ τ x _ is_itself e = e

-- substitutions that give one instance agree on the variables
mutual
  pub agree_at : (σ τ : ℕ → Tree) (x : ℕ) (t : Tree) → Occurs x t → apply σ t ≡ apply τ t → σ x ≡ τ x
  agree_at σ τ x (var y) o e = at_var σ τ x y o e
  agree_at σ τ x (app f ts) o e = agree_in σ τ x ts (args o) cc
    where
      args : {f : Sym} {ts : Trees} → Occurs x (app f ts) → OccursIn x ts
      args (in_args o) = o

  agree_in : (σ τ : ℕ → Tree) (x : ℕ) (ts : Trees) → OccursIn x ts → apply_all σ ts ≡ apply_all τ ts → σ x ≡ τ x
  agree_in σ τ x none o e = elim o [ ]
  agree_in σ τ x (more t ts) (in_first o) e = agree_at σ τ x t o cc
  agree_in σ τ x (more t ts) (in_later o) e = agree_in σ τ x ts o cc

-- and those that agree on the variables give one instance
mutual
  pub same_if : (σ τ : ℕ → Tree) (t : Tree) → ((x : ℕ) → Occurs x t → σ x ≡ τ x) → apply σ t ≡ apply τ t
  same_if σ τ (var x) h = h x is_itself
  same_if σ τ (app f ts) h = ap (app f) (all_same_if σ τ ts (λ x o. h x (in_args o)))

  pub all_same_if : (σ τ : ℕ → Tree) (ts : Trees) → ((x : ℕ) → OccursIn x ts → σ x ≡ τ x) → apply_all σ ts ≡ apply_all τ ts
  all_same_if σ τ none h = refl
  all_same_if σ τ (more t ts) h = ap₂ more (same_if σ τ t (λ x o. h x (in_first o))) (all_same_if σ τ ts (λ x o. h x (in_later o)))

pub agree : (σ τ : ℕ → Tree) (l r : Tree) → ((x : ℕ) → Occurs x r → Occurs x l) → apply σ l ≡ apply τ l → apply σ r ≡ apply τ r
agree σ τ l r h e = same_if σ τ r (λ x o. agree_at σ τ x l (h x o) e)
