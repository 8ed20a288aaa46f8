-- Confluence from local confluence, by accessibility, and unique normal forms.
use Rattle.std.proofs.Common.{◌≡◌, List, refl, sym, subst, ◌⊎◌, inl, inr}
use mathlib.Core.WellFounded.{Acc}
use Rattle.uc_term.specs.declared.equation.Equation.{Equation}
use Rattle.uc_term.specs.Tree.{Tree}
use Rattle.uc_term.specs.Within.{Steps, stay, go_by, Joined}
use Rattle.uc_term.proofs.Moves.{Steps-trans}
use Rattle.uc_order.specs.Laws.{Meaning, Laws, HasSym, IsGroundOf}
use Rattle.uc_fact.specs.Ground.{IsNormal}
use Rattle.uc_decide.specs.NormalForms.{GroundStep, HasNormalForm, IsLocallyConfluent}
use Rattle.uc_decide.proofs.GroundSteps.{step_ground, step_greater}

module _ (m : Meaning) (laws : Laws m) (es : List Equation) where
  abbrev G : Tree → Tree → Type 0
  G = GroundStep m es

  abbrev Below : Tree → Tree → Type 0
  Below u v = IsGroundOf m u × m.greater v u

  pub step_below : (u v : Tree) → IsGroundOf m u → G u v → Below v u
  step_below u v g s = (step_ground m es s g, step_greater m laws es u v s)

  pub normal_stays : (n z : Tree) → IsNormal m.greater (HasSym m) m.arity es n → Steps G n z → n ≡ z
  normal_stays n _ h stay = refl
  normal_stays n z h (go_by {v = v} s c) = absurd (h v s)

  module _ (local : IsLocallyConfluent m es) where
    confluent_at : (u : Tree) → ((a : Tree) → Below a u → (v w : Tree) → Steps G a v → Steps G a w → Joined G v w) → IsGroundOf m u → (v w : Tree) → Steps G u v → Steps G u w → Joined G v w
    confluent_at u known g _ w stay d = record { meet = w; from_left = d; from_right = stay }
    confluent_at u known g v _ (go_by s c) stay = record { meet = v; from_left = stay; from_right = go_by s c }
    confluent_at u known g v w (go_by {v = a} s c) (go_by {v = b} q d) =
        let z = local u a b g s q in
        let j = known a (step_below u a g s) v z.meet c z.from_left in
        let k = known b (step_below u b g q) w j.meet d (Steps-trans G z.from_right j.from_right) in
        record { meet = k.meet; from_left = Steps-trans G j.from_left k.from_right; from_right = k.from_left }

    confluent_by : (u : Tree) → Acc Below u → IsGroundOf m u → (v w : Tree) → Steps G u v → Steps G u w → Joined G v w
    confluent_by _ (Acc.intro u k) g = confluent_at u (λ a p. confluent_by a (k a p) p.0) g

    pub confluent : (u : Tree) → IsGroundOf m u → (v w : Tree) → Steps G u v → Steps G u w → Joined G v w
    confluent u g = confluent_by u (laws.well_founded u g) g

    -- what joins a term joins its normal form
    pub to_normal : (u z n : Tree) → IsGroundOf m u → Steps G u z → HasNormalForm m es u n → Steps G z n
    to_normal u z n g c f =
        let j = confluent u g z n c f.leads in
        subst (Steps G z) (sym (normal_stays n j.meet f.ends j.from_right)) j.from_left

    pub unique : (u n k : Tree) → IsGroundOf m u → HasNormalForm m es u n → HasNormalForm m es u k → n ≡ k
    unique u n k g f h = normal_stays n k f.ends (to_normal u n k g f.leads h)

    pub Joined-trans : (u v w : Tree) → IsGroundOf m v → Joined G u v → Joined G v w → Joined G u w
    Joined-trans u v w g j k =
        let z = confluent v g j.meet k.meet j.from_right k.from_left in
        record { meet = z.meet; from_left = Steps-trans G j.from_left z.from_left; from_right = Steps-trans G k.from_right z.from_right }

  -- a normal form of every ground term, where it is decided whether a step is possible
  module _ (decided : (u : Tree) → IsGroundOf m u → ((v : Tree) × G u v) ⊎ IsNormal m.greater (HasSym m) m.arity es u) where
    normal_at : (u : Tree) → ((a : Tree) → Below a u → (n : Tree) × HasNormalForm m es a n) → IsGroundOf m u → ((v : Tree) × G u v) ⊎ IsNormal m.greater (HasSym m) m.arity es u → (n : Tree) × HasNormalForm m es u n
    normal_at u known g (inl s) = let f = known s.0 (step_below u s.0 g s.1) in (f.0, record { leads = go_by s.1 f.1.leads; ends = f.1.ends })
    normal_at u known g (inr h) = (u, record { leads = stay; ends = h })

    normal_by : (u : Tree) → Acc Below u → IsGroundOf m u → (n : Tree) × HasNormalForm m es u n
    normal_by _ (Acc.intro u k) g = normal_at u (λ a p. normal_by a (k a p) p.0) g (decided u g)

    pub normal : (u : Tree) → IsGroundOf m u → (n : Tree) × HasNormalForm m es u n
    normal u g = normal_by u (laws.well_founded u g) g
