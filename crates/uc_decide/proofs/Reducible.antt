-- Whether a ground step is possible.
use Rattle.std.proofs.Common.{◌≡◌, ℕ, zero, suc, List, [], ◌∷◌, Some, None, refl, sym, ◌∙◌, subst, ◌⊎◌, inl, inr}
use Rattle.uc_term.specs.declared.node.Sym.{Sym}
use Rattle.uc_term.specs.declared.equation.Equation.{Equation}
use Rattle.uc_term.specs.declared.equation.Side.{Side}
use Rattle.uc_term.specs.declared.equation.Side.TheVariants.{Left, Right}
use Rattle.uc_term.specs.Equations.{Sides}
use Rattle.uc_term.specs.Tree.{Tree, var, app, Trees, none, more, apply}
use Rattle.uc_term.specs.Over.{IsTerm, AreGround}
use Rattle.uc_term.specs.Variables.{Occurs}
use Rattle.uc_term.specs.Within.{Within, at_root, under, WithinOne, at_first, at_later, Steps, stay, go_by}
use Rattle.uc_term.proofs.Moves.{steps_apply_on, one_step}
use Rattle.uc_term.proofs.Agree.{same_if}
use Rattle.uc_order.specs.Laws.{Meaning, Laws, HasSym, IsGroundOf, least_term}
use Rattle.uc_fact.specs.Ground.{IsNormal, AreOfSignature}
use Rattle.uc_ground.proofs.Grounded.{image_ground, instance_ground}
use Rattle.uc_decide.specs.NormalForms.{GroundStep}
use Rattle.uc_decide.proofs.GroundSteps.{D, least_ground}
use Rattle.uc_decide.proofs.Values.{value, value_is, value_or, value_ground}

module _ (m : Meaning) (laws : Laws m) where
  down_or_same : {u v : Tree} → Steps (Within m.greater) u v → (u ≡ v) ⊎ m.greater u v
  down_or_same stay = inl refl
  down_or_same {u = u} {v = w} (go_by {v = v} s c) = inr (go (down_or_same c))
    where
      go : (v ≡ w) ⊎ m.greater v w → m.greater u w
      go (inl e) = subst (m.greater u) e (laws.contexts u v s)
      go (inr g) = laws.transitive u v w (laws.contexts u v s) g

  -- the values that a match gives, the least constant for variables that the pattern lacks
  abbrev pub matched : Tree → Tree → ℕ → Tree
  matched l u x = value x l u (least_term m)

  matched_ground : (l u : Tree) → IsGroundOf m u → (x : ℕ) → IsGroundOf m (matched l u x)
  matched_ground l u g x = value_ground (HasSym m) m.arity x l u (least_term m) g (least_ground m laws)

  pub matched_same : (σ : ℕ → Tree) (l u : Tree) → apply σ l ≡ u → apply (matched l u) l ≡ u
  matched_same σ l u e = rw (← e) (same_if (matched l (apply σ l)) σ l (λ x o. value_is σ x l (least_term m) o))

  to_least : (σ : ℕ → Tree) (x : ℕ) (a : Tree) → IsGroundOf m (σ x) → (a ≡ σ x) ⊎ (a ≡ least_term m) → Steps (Within m.greater) (σ x) a
  to_least σ x a g (inl e) = subst (Steps (Within m.greater) (σ x)) (sym e) stay
  to_least σ x a g (inr e) = go (laws.bottom (σ x) g)
    where
      go : (σ x ≡ least_term m) ⊎ m.greater (σ x) (least_term m) → Steps (Within m.greater) (σ x) a
      go (inl q) = subst (Steps (Within m.greater) (σ x)) (q ∙ sym e) stay
      go (inr h) = subst (Steps (Within m.greater) (σ x)) (sym e) (one_step (Within m.greater) (at_root h))

  -- the match goes down where any instance does
  pub matched_down : (σ : ℕ → Tree) (l r u : Tree) → apply σ l ≡ u → IsGroundOf m (apply σ r) → m.greater u (apply σ r) → m.greater u (apply (matched l u) r)
  matched_down σ l r u e g h =
      let moves : (x : ℕ) → Occurs x r → Steps (Within m.greater) (σ x) (matched l u x) = λ x o. rw (← e) (to_least σ x (matched l (apply σ l) x) (image_ground (HasSym m) m.arity σ r x o g) (value_or σ x l (least_term m))) in
      go (down_or_same (steps_apply_on m.greater σ (matched l u) r moves))
    where
      go : (apply σ r ≡ apply (matched l u) r) ⊎ m.greater (apply σ r) (apply (matched l u) r) → m.greater u (apply (matched l u) r)
      go (inl q) = subst (m.greater u) q h
      go (inr q) = laws.transitive u (apply σ r) (apply (matched l u) r) h q

  -- equality and greater are decided on ground terms
  differ : (s t : Tree) → m.greater s t → s ≡ t → ⊥
  differ s t g e = laws.irreflexive t (subst (λ (u : Tree). m.greater u t) e g)

  same_or_not : (s t : Tree) → m.greater s t ⊎ ((s ≡ t) ⊎ m.greater t s) → (s ≡ t) ⊎ (s ≡ t → ⊥)
  same_or_not s t (inl g) = inr (differ s t g)
  same_or_not s t (inr (inl e)) = inl e
  same_or_not s t (inr (inr g)) = inr (λ e. differ t s g (sym e))

  above_or_not : (s t : Tree) → m.greater s t ⊎ ((s ≡ t) ⊎ m.greater t s) → m.greater s t ⊎ (m.greater s t → ⊥)
  above_or_not s t (inl g) = inl g
  above_or_not s t (inr (inl e)) = inr (λ g. differ s t g e)
  above_or_not s t (inr (inr h)) = inr (λ g. laws.irreflexive s (laws.transitive s t s g h))

  module _ (u : Tree) (gu : IsGroundOf m u) where
    abbrev Turns : Tree → Tree → Type 0
    Turns l r = (apply (matched l u) l ≡ u) × m.greater u (apply (matched l u) r) × IsGroundOf m (apply (matched l u) r)

    abbrev TurnsNot : Tree → Tree → Type 0
    TurnsNot l r = (σ : ℕ → Tree) → apply σ l ≡ u → IsGroundOf m (apply σ r) → m.greater u (apply σ r) → ⊥

    turns : (l r : Tree) → IsTerm (HasSym m) m.arity l → IsTerm (HasSym m) m.arity r → Turns l r ⊎ TurnsNot l r
    turns l r ol or =
        let gl = instance_ground (HasSym m) m.arity (matched l u) l ol (λ x _. matched_ground l u gu x) in
        let gr = instance_ground (HasSym m) m.arity (matched l u) r or (λ x _. matched_ground l u gu x) in
        go gr (same_or_not (apply (matched l u) l) u (laws.total (apply (matched l u) l) u gl gu)) (above_or_not u (apply (matched l u) r) (laws.total u (apply (matched l u) r) gu gr))
      where
        go : IsGroundOf m (apply (matched l u) r) → (apply (matched l u) l ≡ u) ⊎ (apply (matched l u) l ≡ u → ⊥) → m.greater u (apply (matched l u) r) ⊎ (m.greater u (apply (matched l u) r) → ⊥) → Turns l r ⊎ TurnsNot l r
        go gr (inl e) (inl h) = inl (e, h, gr)
        go gr (inl e) (inr n) = inr (λ σ q g h. n (matched_down σ l r u q g h))
        go gr (inr n) h = inr (λ σ q g k. n (matched_same σ l u q))

    record Turning (es : List Equation) : Type 0 where
      number : ℕ
      side : Side
      l : Tree
      r : Tree
      sides : Sides es number side l r
      turns_so : Turns l r

    abbrev NoTurning : List Equation → Type 0
    NoTurning es = (i : ℕ) (a : Side) (l r : Tree) → Sides es i a l r → TurnsNot l r

    tail : (e : Equation) (es : List Equation) (i : ℕ) (a : Side) (l r : Tree) → Sides es i a l r → Sides (e ∷ es) (suc i) a l r
    tail e es i a l r s = record { equation = s.equation; equation_is = s.equation_is; left_is = s.left_is; right_is = s.right_is }

    none_of : (e : Equation) (es : List Equation) → TurnsNot e.left e.right → TurnsNot e.right e.left → NoTurning es → NoTurning (e ∷ es)
    none_of e es n k rest zero Left l r s = let q : s.equation ≡ e = cc in rw (s.left_is, s.right_is, q) n
    none_of e es n k rest zero Right l r s = let q : s.equation ≡ e = cc in rw (s.left_is, s.right_is, q) k
    none_of e es n k rest (suc i) a l r s = rest i a l r (record { equation = s.equation; equation_is = s.equation_is; left_is = s.left_is; right_is = s.right_is })

    turning : (es : List Equation) → AreOfSignature (HasSym m) m.arity es → Turning es ⊎ NoTurning es
    turning [] o = inr (λ i a l r s. absurd (let q : None ≡ Some s.equation = s.equation_is in cc))
    turning (e ∷ es) o = let p = o zero e refl in go (turns e.left e.right p.0 p.1) (turns e.right e.left p.1 p.0) (turning es (λ i f q. o (suc i) f q))
      where
        go : Turns e.left e.right ⊎ TurnsNot e.left e.right → Turns e.right e.left ⊎ TurnsNot e.right e.left → Turning es ⊎ NoTurning es → Turning (e ∷ es) ⊎ NoTurning (e ∷ es)
        go (inl h) b c = inl (record { number = zero; side = Left; l = e.left; r = e.right; sides = record { equation = e; equation_is = refl; left_is = refl; right_is = refl }; turns_so = h })
        go (inr n) (inl h) c = inl (record { number = zero; side = Right; l = e.right; r = e.left; sides = record { equation = e; equation_is = refl; left_is = refl; right_is = refl }; turns_so = h })
        go (inr n) (inr p) (inl t) = inl (record { number = suc t.number; side = t.side; l = t.l; r = t.r; sides = tail e es t.number t.side t.l t.r t.sides; turns_so = t.turns_so })
        go (inr n) (inr p) (inr k) = inr (none_of e es n p k)

  module _ (es : List Equation) (over : AreOfSignature (HasSym m) m.arity es) where
    abbrev G : Tree → Tree → Type 0
    G = GroundStep m es

    abbrev Root : Tree → Type 0
    Root u = ((v : Tree) × D m es u v) ⊎ ((v : Tree) → D m es u v → ⊥)

    root : (u : Tree) (g : IsGroundOf m u) → Turning u g es ⊎ NoTurning u g es → Root u
    root u g (inl t) = inl (apply (matched t.l u) t.r, record { turn = record { number = t.number; side = t.side; l = t.l; r = t.r; sides = t.sides; σ = matched t.l u; u_is = sym t.turns_so.0; v_is = refl }; u_ground = g; v_ground = t.turns_so.2; greater = t.turns_so.1 })
    root u g (inr n) = inr (λ v d. n d.turn.number d.turn.side d.turn.l d.turn.r d.turn.sides d.turn.σ (sym d.turn.u_is) (subst (IsGroundOf m) d.turn.v_is d.v_ground) (subst (m.greater u) d.turn.v_is d.greater))

    abbrev Place : Tree → Type 0
    Place u = ((v : Tree) × G u v) ⊎ IsNormal m.greater (HasSym m) m.arity es u

    abbrev PlaceIn : Trees → Type 0
    PlaceIn us = ((vs : Trees) × WithinOne (D m es) us vs) ⊎ ((vs : Trees) → WithinOne (D m es) us vs → ⊥)

    no_step : (f : Sym) (us : Trees) → ((v : Tree) → D m es (app f us) v → ⊥) → ((vs : Trees) → WithinOne (D m es) us vs → ⊥) → (v : Tree) → G (app f us) v → ⊥
    no_step f us n k v (at_root d) = n v d
    no_step f us n k _ (under {vs = vs} o) = k vs o

    no_step_in : (u : Tree) (us : Trees) → ((v : Tree) → G u v → ⊥) → ((vs : Trees) → WithinOne (D m es) us vs → ⊥) → (ws : Trees) → WithinOne (D m es) (more u us) ws → ⊥
    no_step_in u us n k _ (at_first {v = v} s) = n v s
    no_step_in u us n k _ (at_later {vs = vs} o) = k vs o

    at_app : (f : Sym) (us : Trees) → Root (app f us) → PlaceIn us → Place (app f us)
    at_app f us (inl d) p = inl (d.0, at_root d.1)
    at_app f us (inr n) (inl o) = inl (app f o.0, under o.1)
    at_app f us (inr n) (inr k) = inr (no_step f us n k)

    at_more : (u : Tree) (us : Trees) → Place u → PlaceIn us → PlaceIn (more u us)
    at_more u us (inl s) p = inl (more s.0 us, at_first s.1)
    at_more u us (inr n) (inl o) = inl (more u o.0, at_later o.1)
    at_more u us (inr n) (inr k) = inr (no_step_in u us n k)

    no_list : (vs : Trees) → WithinOne (D m es) none vs → ⊥
    no_list vs o = elim o [ ]

    mutual
      pub place : (u : Tree) → IsGroundOf m u → Place u
      place (var x) g = absurd g
      place (app f us) g = at_app f us (root (app f us) g (turning (app f us) g es over)) (place_in us g.2)

      place_in : (us : Trees) → AreGround (HasSym m) m.arity us → PlaceIn us
      place_in none g = inr no_list
      place_in (more u us) g = at_more u us (place u g.0) (place_in us g.1)
