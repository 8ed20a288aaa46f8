-- The critical pair lemma.
use Rattle.std.proofs.Common.{◌≡◌, ℕ, List, [], ◌∷◌, Some, refl, sym, ap, ap₂, ◌∙◌, subst, ◌⊎◌, inl, inr, arith}
use Rattle.uc_term.specs.declared.equation.Equation.{Equation}
use Rattle.uc_term.specs.declared.equation.Side.{Side}
use Rattle.uc_term.specs.declared.equation.Side.TheVariants.{Left, Right}
use Rattle.uc_term.specs.Equations.{side_of, other_side_of}
use Rattle.uc_term.specs.Tree.{Tree, var, app, Trees, more, apply, subterm}
use Rattle.uc_term.specs.Path.{at, put_at}
use Rattle.uc_term.specs.Variables.{IsApp}
use Rattle.uc_term.specs.Within.{Within, at_root, under, WithinOne, at_first, at_later, stay, Joined}
use Rattle.uc_term.specs.Conversion.{Turn}
use Rattle.uc_term.proofs.Positions.{position, placed}
use Rattle.uc_term.proofs.Agree.{agree}
use Rattle.uc_term.proofs.Conversion.{Turn-sym}
use Rattle.uc_term.proofs.Moves.{stay_all, go_all, steps_apply, AllJoined, join_under, join_first, join_later, Joined-sym, Joined-refl, Joined-before, one_step}
use Rattle.uc_order.specs.Laws.{Meaning, Laws, IsGroundOf}
use Rattle.uc_fact.specs.Live.{Live, AreRising, Rule, fact_at, equations_of}
use Rattle.uc_pair.specs.Overlapping.{Overlapping, left_of, right_of, read_from}
use Rattle.uc_pair.specs.Listing.{ComesBefore, by_number, by_side, IsCopy, IsRepeated, inner_is_later, with_its_copy}
use Rattle.uc_pair.specs.Peaks.{LeadsDownTwice}
use Rattle.uc_decide.specs.NormalForms.{GroundStep, IsLocallyConfluent}
use Rattle.uc_decide.specs.Converging.{AreJoinable, AreJoinableOverlaps}
use Rattle.uc_decide.proofs.GroundSteps.{D, step_ground, moves_ground}
use Rattle.uc_decide.proofs.Split.{InVariable, InPart, split}
use Rattle.uc_decide.proofs.Apart.{part_is, not_apart, IsPairInstance, pair_instance}
use Rattle.uc_decide.proofs.Readings.{Reading, reading, turn_of}
use Rattle.uc_decide.proofs.Settled.{IsSettled, are_apart, is_repeated, never_down, has_joinable, settled}

-- the place of the root alone is 0
root_alone : (t u : Tree) (p : List ℕ) → at t p ≡ Some u → position t p ≡ 0 → p ≡ []
root_alone t u [] e z = refl
root_alone (var x) u (i ∷ p) e z = absurd cc
root_alone (app f ts) u (i ∷ p) e z = absurd (omega arith)

before_asym : (r s : Rule) → ComesBefore r s → ComesBefore s r → ⊥
before_asym r s (by_number h) (by_number k) = omega arith
before_asym r s (by_number h) (by_side e p q) = omega arith
before_asym r s (by_side e p q) (by_number k) = omega arith
before_asym r s (by_side e p q) (by_side k x y) = absurd (let n : Left ≡ Right = sym p ∙ y in cc)

module _ (m : Meaning) (laws : Laws m) (live : List Live) where
  abbrev es : List Equation
  es = equations_of live

  abbrev G : Tree → Tree → Type 0
  G = GroundStep m es

  -- two ground sides of one instance are joined by at most one step
  pub compared : (u v : Tree) → Turn es u v → IsGroundOf m u → IsGroundOf m v → m.greater u v ⊎ ((u ≡ v) ⊎ m.greater v u) → Joined G u v
  compared u v t gu gv (inl g) = record { meet = v; from_left = one_step G (at_root (record { turn = t; u_ground = gu; v_ground = gv; greater = g })); from_right = stay }
  compared u v t gu gv (inr (inl e)) = Joined-refl G u v e
  compared u v t gu gv (inr (inr g)) = record { meet = u; from_left = stay; from_right = one_step G (at_root (record { turn = Turn-sym es u v t; u_ground = gv; v_ground = gu; greater = g })) }

  -- a step at the root, and one within the value of a variable
  variable_case : (l r : Tree) → ((τ : ℕ → Tree) → Turn es (apply τ l) (apply τ r)) → (σ : ℕ → Tree) → IsGroundOf m (apply σ l) → IsGroundOf m (apply σ r) → (w : Tree) → InVariable (D m es) σ l w → Joined G (apply σ r) w
  variable_case l r turn σ gl gr w h =
      let left = steps_apply (D m es) σ h.τ h.moves l in
      let right = steps_apply (D m es) σ h.τ h.moves r in
      let gl' = moves_ground m es left gl in
      let gr' = moves_ground m es right gr in
      Joined-before G right h.rest (Joined-sym G (compared (apply h.τ l) (apply h.τ r) (turn h.τ) gl' gr' (laws.total (apply h.τ l) (apply h.τ r) gl' gr')))

  -- an instance of an outer fact's side, of which a part is one of an inner fact's side
  record Peak (i : ℕ) (a : Side) (e : Equation) (j : ℕ) (b : Side) (f : Equation) (p : List ℕ) : Type 0 where
    outer_lives : fact_at live i ≡ Some e
    inner_lives : fact_at live j ≡ Some f
    part : Tree
    there : at (side_of a e) p ≡ Some part
    part_app : IsApp part
    τ : ℕ → Tree
    υ : ℕ → Tree
    same : apply τ part ≡ apply υ (side_of b f)
    outer_down : m.greater (apply τ (side_of a e)) (apply τ (other_side_of a e))
    inner_down : m.greater (apply υ (side_of b f)) (apply υ (other_side_of b f))
    left_ground : IsGroundOf m (apply τ (other_side_of a e))
    inner_ground : IsGroundOf m (apply υ (other_side_of b f))
    right_ground : IsGroundOf m (put_at (apply τ (side_of a e)) p (apply υ (other_side_of b f)))

  module _ (join : AreJoinableOverlaps m live) where
    module _ (i : ℕ) (a : Side) (e : Equation) (j : ℕ) (b : Side) (f : Equation) (p : List ℕ) (k : Peak i a e j b f p) where
      abbrev outer : Rule
      outer = read_from i a e

      abbrev inner : Rule
      inner = read_from j b f

      abbrev here : ℕ
      here = position outer.from p

      abbrev Meets : Type 0
      Meets = Joined G (apply k.τ outer.to) (put_at (apply k.τ outer.from) p (apply k.υ inner.to))

      abbrev Later : Type 0
      Later = (p ≡ []) × IsApp inner.from × ComesBefore outer inner

      here_is : subterm outer.from here ≡ k.part
      here_is = part_is outer inner p k.part k.there k.τ k.υ k.same

      down_twice : LeadsDownTwice m.greater outer inner here
      down_twice = record { τ = k.τ; υ = k.υ; meets = ap (apply k.τ) here_is ∙ k.same; outer_down = k.outer_down; inner_down = k.inner_down }

      by_pair : (o : Overlapping outer inner here) → AreJoinable m live (left_of o) (right_of o) → Meets
      by_pair o pair =
          let q : IsPairInstance outer inner p k.part k.there k.τ k.υ k.same o = pair_instance outer inner p k.part k.there k.τ k.υ k.same o in
          let both = pair q.ρ (subst (IsGroundOf m) q.left_is k.left_ground) (subst (IsGroundOf m) q.right_is k.right_ground) in
          rw (q.left_is, q.right_is) both

      root_is : p ≡ [] → outer.from ≡ k.part
      root_is z = let root : Some outer.from ≡ Some k.part = ap (at outer.from) (sym z) ∙ k.there in cc

      itself : p ≡ [] → IsCopy outer inner → Meets
      itself z c =
          let one : Some e ≡ Some f = sym k.outer_lives ∙ ap (fact_at live) (sym c.one_number) ∙ k.inner_lives in
          let fact : f ≡ e = cc in
          let from_is : inner.from ≡ outer.from = ap₂ side_of c.one_side fact in
          let to_is : inner.to ≡ outer.to = ap₂ other_side_of c.one_side fact in
          let at_from : apply k.τ outer.from ≡ apply k.υ outer.from = ap (apply k.τ) (root_is z) ∙ k.same ∙ ap (apply k.υ) from_is in
          let at_to : apply k.τ outer.to ≡ apply k.υ inner.to = agree k.τ k.υ outer.from outer.to c.no_further at_from ∙ ap (apply k.υ) (sym to_is) in
          Joined-refl G (apply k.τ outer.to) (put_at (apply k.τ outer.from) p (apply k.υ inner.to)) (at_to ∙ ap (λ q. put_at (apply k.τ outer.from) q (apply k.υ inner.to)) (sym z))

      repeated : IsRepeated outer inner here → Meets ⊎ Later
      repeated (inner_is_later z h c) = inr (root_alone outer.from k.part p k.there z, h, c)
      repeated (with_its_copy z h c) = inl (itself (root_alone outer.from k.part p k.there z) c)

      by_settled : IsSettled m laws live outer inner here → Meets ⊎ Later
      by_settled (are_apart n) = absurd (not_apart outer inner p k.part k.there k.τ k.υ k.same n)
      by_settled (is_repeated r) = repeated r
      by_settled (never_down n) = absurd (n down_twice)
      by_settled (has_joinable o h) = inl (by_pair o h)

      close : Meets ⊎ Later
      close = by_settled (settled m laws live i a e j b f (join i j e f k.outer_lives k.inner_lives) here (placed outer.from p k.part k.there).inside (subst IsApp (sym here_is) k.part_app))

      -- the same peak seen from the other side
      swapped : p ≡ [] → IsApp inner.from → Peak j b f i a e []
      swapped z h = record {
        outer_lives = k.inner_lives;
        inner_lives = k.outer_lives;
        part = inner.from;
        there = refl;
        part_app = h;
        τ = k.υ;
        υ = k.τ;
        same = sym k.same ∙ ap (apply k.τ) (sym (root_is z));
        outer_down = k.inner_down;
        inner_down = k.outer_down;
        left_ground = k.inner_ground;
        inner_ground = k.left_ground;
        right_ground = k.left_ground;
      }

    meets : (i : ℕ) (a : Side) (e : Equation) (j : ℕ) (b : Side) (f : Equation) (p : List ℕ) (k : Peak i a e j b f p) → Meets i a e j b f p k
    unfolding swapped
    meets i a e j b f p k = go (close i a e j b f p k)
      where
        again : (z : p ≡ []) (h : IsApp (side_of b f)) → ComesBefore (read_from i a e) (read_from j b f) → Joined G (apply k.υ (other_side_of b f)) (apply k.τ (other_side_of a e)) ⊎ ((let n : List ℕ = [] in n ≡ n) × IsApp (side_of a e) × ComesBefore (read_from j b f) (read_from i a e)) → Meets i a e j b f p k
        again z h c (inl w) = let P : List ℕ → Type 0 = λ q. Joined G (apply k.τ (other_side_of a e)) (put_at (apply k.τ (side_of a e)) q (apply k.υ (other_side_of b f))) in subst P (sym z) (Joined-sym G w)
        again z h c (inr n) = absurd (before_asym (read_from i a e) (read_from j b f) c n.2)

        go : Meets i a e j b f p k ⊎ Later i a e j b f p k → Meets i a e j b f p k
        go (inl w) = w
        go (inr h) = again h.0 h.1 h.2 (close j b f i a e [] (swapped i a e j b f p k h.0 h.1))

    module _ (rising : AreRising live) where
      -- a step at the root, and one at a place of its left side that is no variable
      overlap_case : (u v w : Tree) → D m es u v → (t : Reading live u v) → IsGroundOf m w → InPart (D m es) t.σ (side_of t.side t.equation) w → Joined G (apply t.σ (other_side_of t.side t.equation)) w
      overlap_case u v w d t gw h =
          let s : Reading live (apply t.σ h.part) h.w = reading live rising (apply t.σ h.part) h.w h.step.turn in
          let w_is : w ≡ put_at (apply t.σ (side_of t.side t.equation)) h.p (apply s.σ (other_side_of s.side s.equation)) = h.v_is ∙ ap (put_at (apply t.σ (side_of t.side t.equation)) h.p) s.v_is in
          rw w_is (meets t.number t.side t.equation s.number s.side s.equation h.p (record {
            outer_lives = t.lives;
            inner_lives = s.lives;
            part = h.part;
            there = h.part_is;
            part_app = h.part_app;
            τ = t.σ;
            υ = s.σ;
            same = s.u_is;
            outer_down = subst (λ (z : Tree). m.greater (apply t.σ (side_of t.side t.equation)) z) t.v_is (subst (λ (z : Tree). m.greater z v) t.u_is d.greater);
            inner_down = subst (λ (z : Tree). m.greater (apply s.σ (side_of s.side s.equation)) z) s.v_is (subst (λ (z : Tree). m.greater z h.w) s.u_is h.step.greater);
            left_ground = subst (IsGroundOf m) t.v_is d.v_ground;
            inner_ground = subst (IsGroundOf m) s.v_is h.step.v_ground;
            right_ground = subst (IsGroundOf m) w_is gw;
          }))

      by_split : (u v w : Tree) → D m es u v → (t : Reading live u v) → IsGroundOf m w → InVariable (D m es) t.σ (side_of t.side t.equation) w ⊎ InPart (D m es) t.σ (side_of t.side t.equation) w → Joined G (apply t.σ (other_side_of t.side t.equation)) w
      by_split u v w d t gw (inl h) = variable_case (side_of t.side t.equation) (other_side_of t.side t.equation) (turn_of es t.place t.side t.equation t.is_there) t.σ (subst (IsGroundOf m) t.u_is d.u_ground) (subst (IsGroundOf m) t.v_is d.v_ground) w h
      by_split u v w d t gw (inr h) = overlap_case u v w d t gw h

      -- a step at the root, and any step
      at_the_root : {u v w : Tree} → D m es u v → G u w → Joined G v w
      at_the_root {u = u} {v = v} {w = w} d s =
          let t : Reading live u v = reading live rising u v d.turn in
          let gw = step_ground m es s d.u_ground in
          let s' : G (apply t.σ (side_of t.side t.equation)) w = subst (λ (z : Tree). G z w) t.u_is s in
          rw t.v_is (by_split u v w d t gw (split (D m es) t.σ (side_of t.side t.equation) w s'))

      mutual
        pub peak : {u v w : Tree} → Within (D m es) u v → Within (D m es) u w → Joined (Within (D m es)) v w
        peak (at_root d) s = at_the_root d s
        peak (under o) (at_root d) = Joined-sym G (at_the_root d (under o))
        peak (under {f = f} o) (under q) = join_under (D m es) f (peaks o q)

        peaks : {us vs ws : Trees} → WithinOne (D m es) us vs → WithinOne (D m es) us ws → AllJoined (D m es) vs ws
        peaks (at_first {ts = ts} s) (at_first q) = join_first (D m es) ts (peak s q)
        peaks (at_first {v = v} s) (at_later {us = us} {vs = vs} o) = record { meet = more v vs; from_left = go_all (at_later o) stay_all; from_right = go_all (at_first s) stay_all }
        peaks (at_later {us = us} {vs = vs} o) (at_first {v = v} s) = record { meet = more v vs; from_left = go_all (at_first s) stay_all; from_right = go_all (at_later o) stay_all }
        peaks (at_later {t = t} o) (at_later q) = join_later (D m es) t (peaks o q)

      -- the critical pair lemma
      pub locally_confluent : IsLocallyConfluent m es
      locally_confluent u v w g s q = peak s q
