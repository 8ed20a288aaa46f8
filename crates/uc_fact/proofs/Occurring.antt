-- Whether a variable occurs in a term is decided by its variables.
use Rattle.std.proofs.Common.{◌≡◌, ℕ, ◌==◌, ◌||◌, Bool, true, false, [], ◌∷◌, refl, sym, ◌∙◌, ◌⊎◌, inl, inr, subst}
use Rattle.std.proofs.lemmas.Bool.{eqb-true, eq-eqb}
use Rattle.uc_term.specs.Tree.{Tree, var, app, Trees, none, more}
use Rattle.uc_term.specs.Variables.{Occurs, is_itself, in_args, OccursIn, in_first, in_later, is_among, variables, variables_all}
use Rattle.uc_term.proofs.Firsts.{is_among-append}

pub either : (a b : Bool) → (a || b) ≡ true → (a ≡ true) ⊎ (b ≡ true)
either true b e = inl refl
either false b e = inr e

or_left : (a b : Bool) → a ≡ true → (a || b) ≡ true
or_left true b e = refl
or_left false b e = absurd cc

or_right : (a b : Bool) → b ≡ true → (a || b) ≡ true
or_right true b e = refl
or_right false b e = e

itself : (x y : ℕ) → x ≡ y → Occurs x (var y)
itself x y e = subst (λ z. Occurs x (var z)) e is_itself

either_in : (x : ℕ) (t : Tree) (ts : Trees) → (is_among x (variables t) ≡ true → Occurs x t) → (is_among x (variables_all ts) ≡ true → OccursIn x ts) → (is_among x (variables t) ≡ true) ⊎ (is_among x (variables_all ts) ≡ true) → OccursIn x (more t ts)
either_in x t ts a b (inl e) = in_first (a e)
either_in x t ts a b (inr e) = in_later (b e)

mutual
  pub occurs : (x : ℕ) (t : Tree) → is_among x (variables t) ≡ true → Occurs x t
  occurs x (var y) h = go (either (x == y) false h)
    where
      go : ((x == y) ≡ true) ⊎ (false ≡ true) → Occurs x (var y)
      go (inl e) = itself x y (eqb-true x y e)
      go (inr e) = absurd cc
  occurs x (app f ts) h = in_args (occurs_in x ts h)

  pub occurs_in : (x : ℕ) (ts : Trees) → is_among x (variables_all ts) ≡ true → OccursIn x ts
  occurs_in x none h = absurd cc
  occurs_in x (more t ts) h = either_in x t ts (occurs x t) (occurs_in x ts) (either (is_among x (variables t)) (is_among x (variables_all ts)) (sym (is_among-append x (variables t) (variables_all ts)) ∙ h))

var_among : (x y : ℕ) → Occurs x (var y) → is_among x (y ∷ []) ≡ true
var_among x _ is_itself = or_left (x == x) false (eq-eqb x x refl)

mutual
  pub among : (x : ℕ) (t : Tree) → Occurs x t → is_among x (variables t) ≡ true
  among x (var y) o = var_among x y o
  among x (app f ts) (in_args o) = among_all x ts o

  pub among_all : (x : ℕ) (ts : Trees) → OccursIn x ts → is_among x (variables_all ts) ≡ true
  among_all x none o = elim o [ ]
  among_all x (more t ts) (in_first o) = is_among-append x (variables t) (variables_all ts) ∙ or_left (is_among x (variables t)) (is_among x (variables_all ts)) (among x t o)
  among_all x (more t ts) (in_later o) = is_among-append x (variables t) (variables_all ts) ∙ or_right (is_among x (variables t)) (is_among x (variables_all ts)) (among_all x ts o)

pub occurs_or_not : (x : ℕ) (t : Tree) → Occurs x t ⊎ (Occurs x t → ⊥)
occurs_or_not x t = go (is_among x (variables t)) refl
  where
    go : (b : Bool) → is_among x (variables t) ≡ b → Occurs x t ⊎ (Occurs x t → ⊥)
    go true e = inl (occurs x t e)
    go false e = inr (λ o. clash (sym (among x t o) ∙ e))
      where
        clash : true ≡ false → ⊥
        clash h = cc
