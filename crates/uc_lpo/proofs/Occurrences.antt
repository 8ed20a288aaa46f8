-- What is greater than a variable: a term that is none itself, and that has the variable or one above it.
use Rattle.std.proofs.Common.{◌≡◌, ℕ, sym, subst, refl, ◌⊎◌, inl, inr}
use Rattle.uc_term.specs.declared.node.Sym.{Sym}
use Rattle.uc_term.specs.Tree.{Tree, var, app, Trees, none, more}
use Rattle.uc_term.specs.Variables.{Occurs, is_itself, in_args, OccursIn, in_first, in_later}
use Rattle.uc_lpo.specs.PathOrder.{PathOrder, by_variables, by_argument, SomeReaches, is_it, is_greater, a_later}

module _ (rank : Sym → ℕ) (above : ℕ → ℕ → Type 0) (x : ℕ) where
  -- a variable of the term that is x or above it
  pub record Reached (t : Tree) : Type 0 where
    pub y : ℕ
    pub occurs : Occurs y t
    pub reaches : (y ≡ x) ⊎ above y x

  record ReachedIn (ts : Trees) : Type 0 where
    y : ℕ
    occurs : OccursIn y ts
    reaches : (y ≡ x) ⊎ above y x

  first_of : {t : Tree} {ts : Trees} → Reached t → ReachedIn (more t ts)
  first_of r = record { y = r.y; occurs = in_first r.occurs; reaches = r.reaches }

  later_of : {t : Tree} {ts : Trees} → ReachedIn ts → ReachedIn (more t ts)
  later_of r = record { y = r.y; occurs = in_later r.occurs; reaches = r.reaches }

  higher : {y : ℕ} → PathOrder rank above (var y) (var x) → above y x
  higher (by_variables a) = a

  mutual
    pub reached : (s : Tree) → PathOrder rank above s (var x) → Reached s
    reached (var y) l = record { y = y; occurs = is_itself; reaches = inr (higher l) }
    reached (app f ss) (by_argument p) = let r = reached_in ss p in record { y = r.y; occurs = in_args r.occurs; reaches = r.reaches }

    reached_in : (ss : Trees) → SomeReaches rank above ss (var x) → ReachedIn ss
    reached_in none p = elim p [ ]
    reached_in (more _ ss) is_it = record { y = x; occurs = in_first is_itself; reaches = inl refl }
    reached_in (more s ss) (is_greater l) = first_of (reached s l)
    reached_in (more s ss) (a_later p) = later_of (reached_in ss p)

  module _ (y : ℕ) (reaches : (y ≡ x) ⊎ above y x) where
    itself : (ss : Trees) → (y ≡ x) ⊎ above y x → SomeReaches rank above (more (var y) ss) (var x)
    itself ss (inl e) = subst (λ (z : ℕ). SomeReaches rank above (more (var z) ss) (var x)) (sym e) is_it
    itself ss (inr a) = is_greater (by_variables a)

    some : (ss : Trees) → OccursIn y ss → SomeReaches rank above ss (var x)
    some none o = elim o [ ]
    some (more (var z) ss) (in_first is_itself) = itself ss reaches
    some (more (app f ts) ss) (in_first (in_args o)) = is_greater (by_argument (some ts o))
    some (more t ss) (in_later o) = a_later (some ss o)

  pub reached_is_below : (f : Sym) (ss : Trees) → Reached (app f ss) → PathOrder rank above (app f ss) (var x)
  reached_is_below f ss r = go r.y r.reaches r.occurs
    where
      go : (y : ℕ) → (y ≡ x) ⊎ above y x → Occurs y (app f ss) → PathOrder rank above (app f ss) (var x)
      go y e (in_args o) = by_argument (some y e ss o)
