-- Laws of conversion.
use Rattle.std.proofs.Common.{ℕ, ◌≡◌, List, slice_get, Some, refl, ap, ◌∙◌}
use Rattle.uc_term.specs.declared.node.Sym.{Sym}
use Rattle.uc_term.specs.declared.equation.Equation.{Equation}
use Rattle.uc_term.specs.declared.equation.Side.{Side}
use Rattle.uc_term.specs.declared.equation.Side.TheVariants.{Left, Right}
use Rattle.uc_term.specs.Tree.{Tree, app, Trees, none, more, apply, apply_all}
use Rattle.uc_term.proofs.Terms.{apply-apply}
use Rattle.uc_term.specs.Within.{Within, at_root, under, WithinOne, at_first, at_later, Steps, stay, go_by}
use Rattle.uc_term.specs.Equations.{Sides}
use Rattle.uc_term.specs.Conversion.{Turn, Step, Conv}
use Rattle.uc_term.proofs.Moves.{AllSteps, stay_all, steps_under, steps_more, Steps-trans, one_step}

abbrev pub turned : Side → Side
turned Left = Right
turned Right = Left

pub Sides-turn : (es : List Equation) (i : ℕ) (a : Side) (l r : Tree) → Sides es i a l r → Sides es i (turned a) r l
Sides-turn es i Left l r s = record { equation = s.equation; equation_is = s.equation_is; left_is = s.right_is; right_is = s.left_is }
Sides-turn es i Right l r s = record { equation = s.equation; equation_is = s.equation_is; left_is = s.right_is; right_is = s.left_is }

mutual
  pub Within-flip : {R Q : Tree → Tree → Type 0} → ((u v : Tree) → R u v → Q v u) → {u v : Tree} → Within R u v → Within Q v u
  Within-flip h (at_root {u = u} {v = v} s) = at_root (h u v s)
  Within-flip h (under o) = under (WithinOne-flip h o)

  WithinOne-flip : {R Q : Tree → Tree → Type 0} → ((u v : Tree) → R u v → Q v u) → {us vs : Trees} → WithinOne R us vs → WithinOne Q vs us
  WithinOne-flip h (at_first s) = at_first (Within-flip h s)
  WithinOne-flip h (at_later o) = at_later (WithinOne-flip h o)

module _ (τ : ℕ → Tree) {R Q : Tree → Tree → Type 0} (h : (u v : Tree) → R u v → Q (apply τ u) (apply τ v)) where
  mutual
    pub Within-apply : {u v : Tree} → Within R u v → Within Q (apply τ u) (apply τ v)
    Within-apply (at_root {u = u} {v = v} s) = at_root (h u v s)
    Within-apply (under o) = under (WithinOne-apply o)

    WithinOne-apply : {us vs : Trees} → WithinOne R us vs → WithinOne Q (apply_all τ us) (apply_all τ vs)
    WithinOne-apply (at_first s) = at_first (Within-apply s)
    WithinOne-apply (at_later o) = at_later (WithinOne-apply o)

-- steps of one kind that are lists of steps of another
module _ {R Q : Tree → Tree → Type 0} (h : (u v : Tree) → R u v → Steps (Within Q) u v) where
  mutual
    pub Within-steps : {u v : Tree} → Within R u v → Steps (Within Q) u v
    Within-steps (at_root {u = u} {v = v} s) = h u v s
    Within-steps (under {f = f} o) = steps_under Q f (WithinOne-steps o)

    WithinOne-steps : {us vs : Trees} → WithinOne R us vs → AllSteps Q us vs
    WithinOne-steps (at_first s) = steps_more Q (Within-steps s) stay_all
    WithinOne-steps (at_later o) = steps_more Q stay (WithinOne-steps o)

module _ (es : List Equation) where
  pub Turn-sym : (u v : Tree) → Turn es u v → Turn es v u
  Turn-sym u v t = record { number = t.number; side = turned t.side; l = t.r; r = t.l; sides = Sides-turn es t.number t.side t.l t.r t.sides; σ = t.σ; u_is = t.v_is; v_is = t.u_is }

  pub Turn-apply : (τ : ℕ → Tree) (u v : Tree) → Turn es u v → Turn es (apply τ u) (apply τ v)
  Turn-apply τ u v t = record { number = t.number; side = t.side; l = t.l; r = t.r; sides = t.sides; σ = λ x. apply τ (t.σ x); u_is = ap (apply τ) t.u_is ∙ apply-apply τ t.σ t.l; v_is = ap (apply τ) t.v_is ∙ apply-apply τ t.σ t.r }

  -- the two sides of an instance of the equation of a number
  pub equation_turn : (i : ℕ) (e : Equation) → slice_get es i ≡ Some e → (σ : ℕ → Tree) → Turn es (apply σ e.left) (apply σ e.right)
  equation_turn i e at σ = record { number = i; side = Left; l = e.left; r = e.right; sides = record { equation = e; equation_is = at; left_is = refl; right_is = refl }; σ = σ; u_is = refl; v_is = refl }

  pub Conv-refl : (u : Tree) → Conv es u u
  Conv-refl u = stay

  pub Conv-turn : (u v : Tree) → Turn es u v → Conv es u v
  Conv-turn u v t = go_by (at_root t) stay

  pub Conv-trans : {u v w : Tree} → Conv es u v → Conv es v w → Conv es u w
  Conv-trans c d = Steps-trans (Step es) c d

  pub Conv-sym : {u v : Tree} → Conv es u v → Conv es v u
  Conv-sym stay = stay
  Conv-sym (go_by s c) = Steps-trans (Step es) (Conv-sym c) (one_step (Step es) (Within-flip {R = Turn es} {Q = Turn es} Turn-sym s))

  pub Conv-apply : (τ : ℕ → Tree) {u v : Tree} → Conv es u v → Conv es (apply τ u) (apply τ v)
  Conv-apply τ stay = stay
  Conv-apply τ (go_by s c) = go_by (Within-apply τ {R = Turn es} {Q = Turn es} (Turn-apply τ) s) (Conv-apply τ c)

  -- terms at the same places are equal by the equations
  pub data AllConv : Trees → Trees → Type 0 where
    no_conv : AllConv none none
    one_conv : {u v : Tree} {us vs : Trees} → Conv es u v → AllConv us vs → AllConv (more u us) (more v vs)

  all_steps : {us vs : Trees} → AllConv us vs → AllSteps (Turn es) us vs
  all_steps no_conv = stay_all
  all_steps (one_conv c cs) = steps_more (Turn es) c (all_steps cs)

  pub Conv-app : (f : Sym) {us vs : Trees} → AllConv us vs → Conv es (app f us) (app f vs)
  Conv-app f c = steps_under (Turn es) f (all_steps c)

-- where each of some equations follows from others, what is equal by the first ones is equal by the others
module _ (es fs : List Equation) (follow : (i : ℕ) (e : Equation) → slice_get es i ≡ Some e → Conv fs e.left e.right) where
  sides_conv : (i : ℕ) (a : Side) (l r : Tree) → Sides es i a l r → Conv fs l r
  sides_conv i Left l r s = rw (s.left_is, s.right_is) (follow i s.equation s.equation_is)
  sides_conv i Right l r s = rw (s.left_is, s.right_is) (Conv-sym fs (follow i s.equation s.equation_is))

  turn_conv : (u v : Tree) → Turn es u v → Conv fs u v
  turn_conv u v t = rw (t.u_is, t.v_is) (Conv-apply fs t.σ (sides_conv t.number t.side t.l t.r t.sides))

  pub Step-follows : {u v : Tree} → Step es u v → Conv fs u v
  Step-follows s = Within-steps {R = Turn es} {Q = Turn fs} turn_conv s

  pub Conv-follows : {u v : Tree} → Conv es u v → Conv fs u v
  Conv-follows stay = stay
  Conv-follows (go_by s c) = Conv-trans fs (Step-follows s) (Conv-follows c)
