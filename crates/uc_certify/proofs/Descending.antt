-- Moves are ground steps between the ground instances of their terms.
use Rattle.std.proofs.Common.{ℕ, List, [], ◌∷◌, refl, sym, subst}
use Rattle.uc_term.specs.declared.node.Sym.{Sym}
use Rattle.uc_term.specs.declared.equation.Equation.{Equation}
use Rattle.uc_term.specs.Equations.{side_of, other_side_of}
use Rattle.uc_term.specs.Tree.{Tree, var, app, Trees, none, more, apply, apply_all}
use Rattle.uc_term.specs.Over.{IsOver, AreOver, IsTerm, AreGround}
use Rattle.uc_term.specs.Variables.{Occurs, is_itself, in_args, OccursIn, in_first, in_later}
use Rattle.uc_term.specs.Within.{Within, at_root, under, WithinOne, at_first, at_later, Steps, stay, go_by}
use Rattle.uc_term.specs.Conversion.{Turn}
use Rattle.uc_term.proofs.Conversion.{Turn-apply}
use Rattle.uc_term.proofs.Moves.{Within-map}
use Rattle.uc_order.specs.Laws.{Meaning, Laws, HasSym, IsGroundOf}
use Rattle.uc_order.specs.VarOrders.{Classes, Among, HasOnly, Respects}
use Rattle.uc_fact.specs.Ground.{Down, GStep}
use Rattle.uc_rewrite.specs.Replay.{replaced_side}
use Rattle.uc_ground.proofs.Grounded.{image_ground, instance_ground}
use Rattle.uc_certificate.specs.declared.certificate.Move.{Move}
use Rattle.uc_certify.specs.Moving.{moved, IsMove, AreMoves}
use Rattle.uc_certify.proofs.Positioned.{within_at}
use Rattle.uc_certify.proofs.NoNew.{no_new}

-- each variable of the term is so
abbrev pub Only : (ℕ → Type 0) → Tree → Type 0
Only Known t = (x : ℕ) → Occurs x t → Known x

abbrev OnlyIn : (ℕ → Type 0) → Trees → Type 0
OnlyIn Known ts = (x : ℕ) → OccursIn x ts → Known x

known_var : (Known : ℕ → Type 0) (x y : ℕ) → Occurs x (var y) → Known y → Known x
known_var Known x _ is_itself k = k

module _ (has : Sym → Type 0) (arity : Sym → ℕ) (Known : ℕ → Type 0) where
  mutual
    pub over_only : (t : Tree) → IsOver has arity Known t → Only Known t
    over_only (var y) o x i = known_var Known x y i o
    over_only (app f ts) o x (in_args i) = all_only ts o.2 x i

    all_only : (ts : Trees) → AreOver has arity Known ts → OnlyIn Known ts
    all_only none o x i = elim i [ ]
    all_only (more t ts) o x (in_first i) = over_only t o.0 x i
    all_only (more t ts) o x (in_later i) = all_only ts o.1 x i

  mutual
    pub over_term : (t : Tree) → IsOver has arity Known t → IsTerm has arity t
    over_term (var y) o = tt
    over_term (app f ts) o = (o.0, o.1, all_terms ts o.2)

    all_terms : (ts : Trees) → AreOver has arity Known ts → AreOver has arity (λ _. Unit {0}) ts
    all_terms none o = tt
    all_terms (more t ts) o = (over_term t o.0, all_terms ts o.1)

module _ (m : Meaning) (facts : List Equation) where
  abbrev Bare : Tree → Type 0
  Bare = IsGroundOf m

  abbrev D : Tree → Tree → Type 0
  D = Down m.greater (HasSym m) m.arity facts

  abbrev pub G : Tree → Tree → Type 0
  G = GStep m.greater (HasSym m) m.arity facts

  -- the two sides of an instance of a fact, the first one greater
  record Falls (Above : Tree → Tree → Type 0) (u v : Tree) : Type 0 where
    turn : Turn facts u v
    greater : Above u v

  falls : (Above : Tree → Tree → Type 0) (Known : ℕ → Type 0) (t : Tree) (move : Move) → IsMove m facts Above Known t move → Within (Falls Above) t move.to
  falls Above Known t move h =
      let l = side_of (replaced_side move.left_to_right) h.equation in
      let r = other_side_of (replaced_side move.left_to_right) h.equation in
      let turn : Turn facts h.part (apply h.σ r) = record { number = move.fact; side = replaced_side move.left_to_right; l = l; r = r; sides = record { equation = h.equation; equation_is = h.equation_is; left_is = refl; right_is = refl }; σ = h.σ; u_is = sym h.from_is; v_is = refl } in
      subst (λ (z : Tree). Within (Falls Above) t z) h.to_is (within_at (Falls Above) move.path t h.part (apply h.σ r) h.part_is (record { turn = turn; greater = h.greater }))

  -- instances of the two that are ground and keep the greater one greater
  module _ (Above : Tree → Tree → Type 0) (Known : ℕ → Type 0) (σ : ℕ → Tree) (holds : (u v : Tree) → Only Known u → Only Known v → Bare (apply σ u) → Bare (apply σ v) → Above u v → m.greater (apply σ u) (apply σ v)) where
    down : (u v : Tree) → Falls Above u v → Only Known u → Only Known v → Bare (apply σ u) → Bare (apply σ v) → D (apply σ u) (apply σ v)
    down u v f hu hv gu gv = record { turn = Turn-apply facts σ u v f.turn; u_ground = gu; v_ground = gv; greater = holds u v hu hv gu gv f.greater }

    mutual
      step_down : (u v : Tree) → Within (Falls Above) u v → Only Known u → Only Known v → Bare (apply σ u) → Bare (apply σ v) → G (apply σ u) (apply σ v)
      step_down u v (at_root f) hu hv gu gv = at_root (down u v f hu hv gu gv)
      step_down (app f us) (app _ vs) (under w) hu hv gu gv = under (steps_down us vs w (λ x o. hu x (in_args o)) (λ x o. hv x (in_args o)) gu.2 gv.2)

      steps_down : (us vs : Trees) → WithinOne (Falls Above) us vs → OnlyIn Known us → OnlyIn Known vs → AreGround (HasSym m) m.arity (apply_all σ us) → AreGround (HasSym m) m.arity (apply_all σ vs) → WithinOne D (apply_all σ us) (apply_all σ vs)
      steps_down none vs w hu hv gu gv = elim w [ ]
      steps_down (more u ts) none w hu hv gu gv = elim w [ ]
      steps_down (more u ts) (more v _) (at_first s) hu hv gu gv = at_first (step_down u v s (λ x o. hu x (in_first o)) (λ x o. hv x (in_first o)) gu.0 gv.0)
      steps_down (more t us) (more _ vs) (at_later w) hu hv gu gv = at_later (steps_down us vs w (λ x o. hu x (in_later o)) (λ x o. hv x (in_later o)) gu.1 gv.1)

    -- moves from a term whose instance is ground, where the terms behind them have ground instances too
    module _ (next : (t : Tree) (move : Move) → IsMove m facts Above Known t move → Bare (apply σ t) → Bare (apply σ move.to)) where
      pub moves_ground : (t : Tree) (moves : List Move) → AreMoves m facts Above Known t moves → Bare (apply σ t) → Bare (apply σ (moved t moves))
      moves_ground t [] h g = g
      moves_ground t (move ∷ moves) h g = moves_ground move.to moves h.1 (next t move h.0 g)

      pub moves_down : (t : Tree) (moves : List Move) → AreMoves m facts Above Known t moves → Only Known t → Bare (apply σ t) → Steps G (apply σ t) (apply σ (moved t moves))
      moves_down t [] h o g = stay
      moves_down t (move ∷ moves) h o g =
          let behind = next t move h.0 g in
          let only = over_only (HasSym m) m.arity Known move.to h.0.over in
          go_by (step_down t move.to (falls Above Known t move h.0) o only g behind) (moves_down move.to moves h.1 only behind)

  module _ (laws : Laws m) (σ : ℕ → Tree) where
    abbrev Any : ℕ → Type 0
    Any x = Unit {0}

    any_holds : (u v : Tree) → Only Any u → Only Any v → Bare (apply σ u) → Bare (apply σ v) → m.greater u v → m.greater (apply σ u) (apply σ v)
    any_holds u v _ _ _ _ g = laws.instances σ u v g

    -- a move leads to a term without new variables, so its instance is ground too
    any_next : (t : Tree) (move : Move) → IsMove m facts m.greater Any t move → Bare (apply σ t) → Bare (apply σ move.to)
    any_next t move h g =
        let less = laws.contexts t move.to (Within-map {R = Falls m.greater} {Q = m.greater} (λ u v f. f.greater) (falls m.greater Any t move h)) in
        instance_ground (HasSym m) m.arity σ move.to h.over (λ x o. image_ground (HasSym m) m.arity σ t x (no_new m laws t move.to less x o) g)

    pub any_ground : (t : Tree) (moves : List Move) → AreMoves m facts m.greater Any t moves → Bare (apply σ t) → Bare (apply σ (moved t moves))
    any_ground t moves h g = moves_ground m.greater Any σ any_holds any_next t moves h g

    pub any_down : (t : Tree) (moves : List Move) → AreMoves m facts m.greater Any t moves → Bare (apply σ t) → Steps G (apply σ t) (apply σ (moved t moves))
    any_down t moves h g = moves_down m.greater Any σ any_holds any_next t moves h (λ x o. tt) g

    -- under an order of variables that is respected, all of them having ground values
    module _ (cases : Classes) (respects : Respects m.greater σ cases) (values : (x : ℕ) → Among cases x → Bare (σ x)) where
      case_holds : (u v : Tree) → Only (Among cases) u → Only (Among cases) v → Bare (apply σ u) → Bare (apply σ v) → m.under cases u v → m.greater (apply σ u) (apply σ v)
      case_holds u v hu hv gu gv g = laws.under_holds cases σ u v hu hv respects gu gv g

      case_next : (t : Tree) (move : Move) → IsMove m facts (m.under cases) (Among cases) t move → Bare (apply σ t) → Bare (apply σ move.to)
      case_next t move h g = instance_ground (HasSym m) m.arity σ move.to (over_term (HasSym m) m.arity (Among cases) move.to h.over) (λ x o. values x (over_only (HasSym m) m.arity (Among cases) move.to h.over x o))

      pub case_down : (t : Tree) (moves : List Move) → AreMoves m facts (m.under cases) (Among cases) t moves → HasOnly cases t → Bare (apply σ t) → Steps G (apply σ t) (apply σ (moved t moves))
      case_down t moves h o g = moves_down (m.under cases) (Among cases) σ case_holds case_next t moves h o g
