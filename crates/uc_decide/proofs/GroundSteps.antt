-- Laws of ground steps.
use Rattle.std.proofs.Common.{◌≡◌, ◌+◌, List, refl, sym, ap, ◌∙◌, subst, ◌⊎◌, inl, inr}
use Rattle.uc_term.specs.declared.equation.Equation.{Equation}
use Rattle.uc_term.specs.Tree.{Tree, Trees, count}
use Rattle.uc_term.specs.Over.{AreGround}
use Rattle.uc_term.specs.Within.{Within, at_root, under, WithinOne, at_first, at_later, Steps, stay, go_by}
use Rattle.uc_term.specs.Conversion.{Conv}
use Rattle.uc_term.proofs.Moves.{Within-map}
use Rattle.uc_term.proofs.Conversion.{Conv-trans, Step-follows}
use Rattle.uc_order.specs.Laws.{Meaning, Laws, HasSym, IsGroundOf, least_term}
use Rattle.uc_fact.specs.Ground.{Down}
use Rattle.uc_decide.specs.NormalForms.{GroundStep, HasNormalForm}
use Rattle.uc_decide.specs.Converging.{FollowFrom}

module _ (m : Meaning) (es : List Equation) where
  abbrev pub D : Tree → Tree → Type 0
  D = Down m.greater (HasSym m) m.arity es

  abbrev pub G : Tree → Tree → Type 0
  G = GroundStep m es

  -- they lead to ground terms
  mutual
    pub step_ground : {u v : Tree} → Within D u v → IsGroundOf m u → IsGroundOf m v
    step_ground (at_root d) g = d.v_ground
    step_ground (under o) g = (g.0, sym (once_count o) ∙ g.1, once_ground o g.2)

    once_ground : {us vs : Trees} → WithinOne D us vs → AreGround (HasSym m) m.arity us → AreGround (HasSym m) m.arity vs
    once_ground (at_first s) g = (step_ground s g.0, g.1)
    once_ground (at_later o) g = (g.0, once_ground o g.1)

    once_count : {us vs : Trees} → WithinOne D us vs → count us ≡ count vs
    once_count (at_first s) = refl
    once_count (at_later o) = ap (λ n. n + 1) (once_count o)

  pub moves_ground : {u v : Tree} → Steps G u v → IsGroundOf m u → IsGroundOf m v
  moves_ground stay g = g
  moves_ground (go_by s c) g = moves_ground c (step_ground s g)

  pub normal_ground : {u n : Tree} → HasNormalForm m es u n → IsGroundOf m u → IsGroundOf m n
  normal_ground f g = moves_ground f.leads g

  -- a normal form is its own
  pub normal_itself : {u n : Tree} → HasNormalForm m es u n → HasNormalForm m es n n
  normal_itself f = record { leads = stay; ends = f.ends }

  -- by facts that follow from axioms they lead to what is equal by these
  module _ (axioms : List Equation) (follow : FollowFrom axioms es) where
    pub step_conv : {u v : Tree} → G u v → Conv axioms u v
    step_conv s = Step-follows es axioms follow (Within-map {R = D} (λ a b d. d.turn) s)

    pub moves_conv : {u v : Tree} → Steps G u v → Conv axioms u v
    moves_conv stay = stay
    moves_conv (go_by s c) = Conv-trans axioms (step_conv s) (moves_conv c)

module _ (m : Meaning) (laws : Laws m) where
  pub least_ground : IsGroundOf m (least_term m)
  least_ground = (laws.least_is.0, sym laws.least_is.1, tt)

  module _ (es : List Equation) where
    -- they lead down
    pub step_greater : (u v : Tree) → G m es u v → m.greater u v
    step_greater u v s = laws.contexts u v (Within-map {R = D m es} (λ a b d. d.greater) s)

    pub moves_greater : (u v : Tree) → Steps (G m es) u v → (v ≡ u) ⊎ m.greater u v
    moves_greater u _ stay = inl refl
    moves_greater u v (go_by {v = w} s c) = inr (go (moves_greater w v c))
      where
        go : (v ≡ w) ⊎ m.greater w v → m.greater u v
        go (inl e) = subst (m.greater u) (sym e) (step_greater u w s)
        go (inr h) = laws.transitive u w v (step_greater u w s) h
