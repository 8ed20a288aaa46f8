-- A step in an instance of a term is at a place of the term that is no variable, or within the value of a variable.
use Rattle.std.proofs.Common.{◌≡◌, ℕ, zero, suc, ◌==◌, Bool, true, false, List, [], ◌∷◌, Some, option_and_then, refl, sym, ap, subst, ◌⊎◌, inl, inr, if◌then◌else◌, arith}
use Rattle.std.proofs.lemmas.Bool.Decides.{nat_tests}
use Rattle.uc_term.specs.declared.node.Sym.{Sym}
use Rattle.uc_term.specs.Tree.{Tree, var, app, Trees, none, more, apply, apply_all}
use Rattle.uc_term.specs.Path.{nth, change, at, put_at}
use Rattle.uc_term.specs.Within.{Within, at_root, under, WithinOne, at_first, at_later, stay, go_by}
use Rattle.uc_term.specs.Variables.{IsApp}
use Rattle.uc_term.proofs.Moves.{Moves, AllSteps, steps_apply, steps_apply_all, steps_more, steps_under}

module _ (R : Tree → Tree → Type 0) (σ : ℕ → Tree) where
  -- the values of the variables move, and what the step made moves to the instance by the new ones
  pub record InVariable (t v : Tree) : Type 0 where
    pub τ : ℕ → Tree
    pub moves : (x : ℕ) → Moves R (σ x) (τ x)
    pub rest : Moves R v (apply τ t)

  record InVariables (ts vs : Trees) : Type 0 where
    τ : ℕ → Tree
    moves : (x : ℕ) → Moves R (σ x) (τ x)
    rest : AllSteps R vs (apply_all τ ts)

  pub record InPart (t v : Tree) : Type 0 where
    pub p : List ℕ
    pub part : Tree
    pub part_is : at t p ≡ Some part
    pub part_app : IsApp part
    pub w : Tree
    pub step : R (apply σ part) w
    pub v_is : v ≡ put_at (apply σ t) p w

  record InParts (ts vs : Trees) : Type 0 where
    i : ℕ
    p : List ℕ
    part : Tree
    part_is : option_and_then (λ u. at u p) (nth ts i) ≡ Some part
    part_app : IsApp part
    w : Tree
    step : R (apply σ part) w
    vs_is : vs ≡ change (λ a. put_at a p w) (apply_all σ ts) i

  changed : ℕ → Tree → ℕ → Tree
  changed x v y = if y == x then v else σ y

  changed_moves : (b : Bool) (x y : ℕ) (v : Tree) → (b ≡ true → y ≡ x) → Within R (σ x) v → Moves R (σ y) (if b then v else σ y)
  changed_moves true x y v e s = subst (λ (z : ℕ). Moves R (σ z) v) (sym (e refl)) (go_by s stay)
  changed_moves false x y v e s = stay

  changed_here : (x : ℕ) (v : Tree) → v ≡ changed x v x
  unfolding changed
  changed_here x v = let e : (x == x) ≡ true = grind (arith, nat_tests) in rw e refl

  in_variable : (x : ℕ) (v : Tree) → Within R (σ x) v → InVariable (var x) v
  unfolding changed
  in_variable x v s = record {
    τ = changed x v;
    moves = λ y. changed_moves (y == x) x y v (λ e. grind (arith, nat_tests)) s;
    rest = subst (λ (z : Tree). Moves R v z) (changed_here x v) stay;
  }

  to_app : (f : Sym) (ts vs : Trees) → InVariables ts vs ⊎ InParts ts vs → InVariable (app f ts) (app f vs) ⊎ InPart (app f ts) (app f vs)
  to_app f ts vs (inl h) = inl (record { τ = h.τ; moves = h.moves; rest = steps_under R f h.rest })
  to_app f ts vs (inr h) = inr (record { p = h.i ∷ h.p; part = h.part; part_is = h.part_is; part_app = h.part_app; w = h.w; step = h.step; v_is = ap (app f) h.vs_is })

  to_first : (t : Tree) (ts : Trees) (v : Tree) → InVariable t v ⊎ InPart t v → InVariables (more t ts) (more v (apply_all σ ts)) ⊎ InParts (more t ts) (more v (apply_all σ ts))
  to_first t ts v (inl h) = inl (record { τ = h.τ; moves = h.moves; rest = steps_more R h.rest (steps_apply_all R σ h.τ h.moves ts) })
  to_first t ts v (inr h) = inr (record { i = zero; p = h.p; part = h.part; part_is = h.part_is; part_app = h.part_app; w = h.w; step = h.step; vs_is = ap (λ a. more a (apply_all σ ts)) h.v_is })

  to_later : (t : Tree) (ts vs : Trees) → InVariables ts vs ⊎ InParts ts vs → InVariables (more t ts) (more (apply σ t) vs) ⊎ InParts (more t ts) (more (apply σ t) vs)
  to_later t ts vs (inl h) = inl (record { τ = h.τ; moves = h.moves; rest = steps_more R (steps_apply R σ h.τ h.moves t) h.rest })
  to_later t ts vs (inr h) = inr (record { i = suc h.i; p = h.p; part = h.part; part_is = h.part_is; part_app = h.part_app; w = h.w; step = h.step; vs_is = ap (more (apply σ t)) h.vs_is })

  mutual
    pub split : (t v : Tree) → Within R (apply σ t) v → InVariable t v ⊎ InPart t v
    split (var x) v s = inl (in_variable x v s)
    split (app f ts) v (at_root s) = inr (record { p = []; part = app f ts; part_is = refl; part_app = tt; w = v; step = s; v_is = refl })
    split (app f ts) _ (under {vs = vs} o) = to_app f ts vs (split_all ts vs o)

    split_all : (ts vs : Trees) → WithinOne R (apply_all σ ts) vs → InVariables ts vs ⊎ InParts ts vs
    split_all none vs o = elim o [ ]
    split_all (more t ts) _ (at_first {v = v} s) = to_first t ts v (split t v s)
    split_all (more t ts) _ (at_later {vs = vs} o) = to_later t ts vs (split_all ts vs o)
