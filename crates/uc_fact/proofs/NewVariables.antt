-- An ordered step brings no variable that the term before it lacks.
use Rattle.std.proofs.Common.{ℕ, List, sym, subst, inl, inr, ◌⊎◌}
use Rattle.uc_term.specs.declared.node.Sym.{Sym}
use Rattle.uc_term.specs.declared.equation.Equation.{Equation}
use Rattle.uc_term.specs.Tree.{Tree, var, app, Trees, none, more, apply, apply_all}
use Rattle.uc_term.specs.Variables.{Occurs, is_itself, in_args, OccursIn, in_first, in_later}
use Rattle.uc_term.specs.Within.{at_root, under, WithinOne, at_first, at_later}
use Rattle.uc_fact.specs.Ordered.{IsCompleted, Falls, OStep}
use Rattle.uc_fact.proofs.Occurring.{occurs_or_not}

module _ (σ : ℕ → Tree) (x : ℕ) where
  -- x stands in the value of one of the term's variables
  pub record InValue (t : Tree) : Type 0 where
    pub y : ℕ
    pub occurs : Occurs y t
    pub inside : Occurs x (σ y)

  pub record InValueOf (ts : Trees) : Type 0 where
    pub y : ℕ
    pub occurs : OccursIn y ts
    pub inside : Occurs x (σ y)

  mutual
    pub in_value : (t : Tree) → Occurs x (apply σ t) → InValue t
    in_value (var y) o = record { y = y; occurs = is_itself; inside = o }
    in_value (app f ts) (in_args o) = let v = in_value_of ts o in record { y = v.y; occurs = in_args v.occurs; inside = v.inside }

    pub in_value_of : (ts : Trees) → OccursIn x (apply_all σ ts) → InValueOf ts
    in_value_of none o = elim o [ ]
    in_value_of (more t ts) (in_first o) = let v = in_value t o in record { y = v.y; occurs = in_first v.occurs; inside = v.inside }
    in_value_of (more t ts) (in_later o) = let v = in_value_of ts o in record { y = v.y; occurs = in_later v.occurs; inside = v.inside }

  mutual
    pub in_instance : (y : ℕ) (t : Tree) → Occurs y t → Occurs x (σ y) → Occurs x (apply σ t)
    in_instance y (var _) is_itself i = i
    in_instance y (app f ts) (in_args o) i = in_args (in_instance_of y ts o i)

    pub in_instance_of : (y : ℕ) (ts : Trees) → OccursIn y ts → Occurs x (σ y) → OccursIn x (apply_all σ ts)
    in_instance_of y none o i = elim o [ ]
    in_instance_of y (more t ts) (in_first o) i = in_first (in_instance y t o i)
    in_instance_of y (more t ts) (in_later o) i = in_later (in_instance_of y ts o i)

no_variable : (x : ℕ) (f : Sym) → Occurs x (app f none) → ⊥
no_variable x f (in_args o) = elim o [ ]

-- the instances of two sides, where the variables that only the other side has are a constant
pub none_new : (least : Sym) (l r : Tree) (σ : ℕ → Tree) → IsCompleted least l r σ → (x : ℕ) → Occurs x (apply σ r) → Occurs x (apply σ l)
none_new least l r σ completed x o = go (in_value σ x r o)
  where
    from : (v : InValue σ x r) → Occurs v.y l ⊎ (Occurs v.y l → ⊥) → Occurs x (apply σ l)
    from v (inl p) = in_instance σ x v.y l p v.inside
    from v (inr n) = absurd (no_variable x least (subst (Occurs x) (completed v.y v.occurs n) v.inside))

    go : InValue σ x r → Occurs x (apply σ l)
    go v = from v (occurs_or_not v.y l)

module _ (Greater : Tree → Tree → Type 0) (least : Sym) (es : List Equation) where
  falls_none_new : (u v : Tree) → Falls Greater least es u v → (x : ℕ) → Occurs x v → Occurs x u
  falls_none_new u v f x o =
      let turn = f.turn in
      subst (Occurs x) (sym turn.u_is) (none_new least turn.l turn.r turn.σ f.completed x (subst (Occurs x) turn.v_is o))

  mutual
    pub step_none_new : (u v : Tree) → OStep Greater least es u v → (x : ℕ) → Occurs x v → Occurs x u
    step_none_new u v (at_root f) x o = falls_none_new u v f x o
    step_none_new (app f us) (app _ vs) (under w) x (in_args o) = in_args (args_none_new us vs w x o)

    args_none_new : (us vs : Trees) → WithinOne (Falls Greater least es) us vs → (x : ℕ) → OccursIn x vs → OccursIn x us
    args_none_new none vs w x o = elim w [ ]
    args_none_new (more u us) none w x o = elim w [ ]
    args_none_new (more u us) (more v _) (at_first w) x (in_first o) = in_first (step_none_new u v w x o)
    args_none_new (more u us) (more v _) (at_first w) x (in_later o) = in_later o
    args_none_new (more t us) (more _ vs) (at_later w) x (in_first o) = in_first o
    args_none_new (more t us) (more _ vs) (at_later w) x (in_later o) = in_later (args_none_new us vs w x o)
