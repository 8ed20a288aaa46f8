-- On ground terms an ordered step is a ground step, and where a ground step is possible an ordered one is.
use Rattle.std.proofs.Common.{ℕ, List, [], ◌∷◌, refl, sym, subst}
use Rattle.uc_term.specs.declared.equation.Equation.{Equation}
use Rattle.uc_term.specs.Tree.{Tree, var, app, Trees, more, apply, apply_all}
use Rattle.uc_term.specs.Over.{AreGround}
use Rattle.uc_term.specs.Within.{Within, at_root, under, WithinOne, at_first, at_later, Steps, stay, go_by}
use Rattle.uc_term.proofs.Terms.{apply-var}
use Rattle.uc_term.proofs.Conversion.{Turn-apply}
use Rattle.uc_term.proofs.Moves.{Joined-before}
use Rattle.uc_order.specs.Laws.{Meaning, Laws, HasSym, IsGroundOf, least_term}
use Rattle.uc_fact.specs.declared.chain.Step.{Step}
use Rattle.uc_fact.specs.Chains.{Links}
use Rattle.uc_fact.specs.Ordered.{Falls, OStep, IsIrreducible}
use Rattle.uc_fact.specs.Ground.{AreOfSignature, IsNormal, IsJoinable}
use Rattle.uc_ground.proofs.Grounded.{falls_ground}
use Rattle.uc_decide.specs.NormalForms.{GroundStep, HasNormalForm}
use Rattle.uc_decide.proofs.GroundSteps.{D, least_ground, step_ground, moves_ground}
use Rattle.uc_decide.proofs.Values.{value_none}
use Rattle.uc_decide.proofs.Reducible.{matched, matched_same, matched_down}

module _ (m : Meaning) (laws : Laws m) (es : List Equation) where
  abbrev Lower : Tree → Tree → Type 0
  Lower = Falls m.greater m.least es

  -- where a ground step is possible
  falls_from : (u v : Tree) → D m es u v → (w : Tree) × Lower u w
  falls_from u v d =
      let τ = matched m laws d.turn.l u in (
        apply τ d.turn.r,
        record {
          turn = record {
            number = d.turn.number;
            side = d.turn.side;
            l = d.turn.l;
            r = d.turn.r;
            sides = d.turn.sides;
            σ = τ;
            u_is = sym (matched_same m laws d.turn.σ d.turn.l u (sym d.turn.u_is));
            v_is = refl;
          };
          completed = λ x o n. value_none d.turn.σ x d.turn.l u (least_term m) n;
          greater = matched_down m laws d.turn.σ d.turn.l d.turn.r u (sym d.turn.u_is) (subst (IsGroundOf m) d.turn.v_is d.v_ground) (subst (m.greater u) d.turn.v_is d.greater);
        },
      )

  mutual
    ordered : {u v : Tree} → Within (D m es) u v → (w : Tree) × Within Lower u w
    ordered (at_root {u = u} {v = v} d) = let t = falls_from u v d in (t.0, at_root t.1)
    ordered (under {f = f} o) = let t = ordered_in o in (app f t.0, under t.1)

    ordered_in : {us vs : Trees} → WithinOne (D m es) us vs → (ws : Trees) × WithinOne Lower us ws
    ordered_in (at_first {ts = ts} s) = let t = ordered s in (more t.0 ts, at_first t.1)
    ordered_in (at_later {t = u} o) = let t = ordered_in o in (more u t.0, at_later t.1)

  pub normal_if : (u : Tree) → IsIrreducible m.greater m.least es u → IsNormal m.greater (HasSym m) m.arity es u
  normal_if u n v s = let t = ordered s in n t.0 t.1

  -- ordered steps in ground instances
  module _ (over : AreOfSignature (HasSym m) m.arity es) where
    module _ (σ : ℕ → Tree) where
      down : (u v : Tree) → Lower u v → IsGroundOf m (apply σ u) → D m es (apply σ u) (apply σ v)
      down u v f g = record {
        turn = Turn-apply es σ u v f.turn;
        u_ground = g;
        v_ground = falls_ground (HasSym m) m.arity m.greater m.least (least_ground m laws) es over σ u v f g;
        greater = laws.instances σ u v f.greater;
      }

      mutual
        ground_step : {u v : Tree} → Within Lower u v → IsGroundOf m (apply σ u) → Within (D m es) (apply σ u) (apply σ v)
        ground_step (at_root {u = u} {v = v} f) g = at_root (down u v f g)
        ground_step (under o) g = under (ground_step_in o g.2)

        ground_step_in : {us vs : Trees} → WithinOne Lower us vs → AreGround (HasSym m) m.arity (apply_all σ us) → WithinOne (D m es) (apply_all σ us) (apply_all σ vs)
        ground_step_in (at_first s) g = at_first (ground_step s g.0)
        ground_step_in (at_later o) g = at_later (ground_step_in o g.1)

      ground_steps : (u : Tree) (steps : List Step) (v : Tree) → Links (OStep m.greater m.least es) u steps v → IsGroundOf m (apply σ u) → Steps (GroundStep m es) (apply σ u) (apply σ v)
      ground_steps u [] v e g = subst (λ (z : Tree). Steps (GroundStep m es) (apply σ u) (apply σ z)) e stay
      ground_steps u (step ∷ steps) v s g =
          let d : Within (D m es) (apply σ u) (apply σ step.to) = ground_step s.0 g in
          go_by d (ground_steps step.to steps v s.1 (step_ground m es d g))

    -- so two terms are joinable where those are to which they lead
    pub ends_join : (s t : Tree) (to_s to_t : List Step) (u v : Tree) → Links (OStep m.greater m.least es) s to_s u → Links (OStep m.greater m.least es) t to_t v → IsJoinable m.greater (HasSym m) m.arity es u v → IsJoinable m.greater (HasSym m) m.arity es s t
    ends_join s t to_s to_t u v a b j σ gs gt =
        let c = ground_steps σ s to_s u a gs in
        let d = ground_steps σ t to_t v b gt in
        Joined-before (GroundStep m es) c d (j σ (moves_ground m es c gs) (moves_ground m es d gt))

    -- and an end of a ground term from which no ordered step leads on is a normal form
    pub normal_form : (u : Tree) (steps : List Step) (v : Tree) → Links (OStep m.greater m.least es) u steps v → IsIrreducible m.greater m.least es v → IsGroundOf m u → HasNormalForm m es u v
    normal_form u steps v s n g =
        let c = ground_steps var u steps v s (subst (IsGroundOf m) (sym (apply-var u)) g) in
        record {
          leads = subst (λ (z : Tree). Steps (GroundStep m es) z v) (apply-var u) (subst (λ (z : Tree). Steps (GroundStep m es) (apply var u) z) (apply-var v) c);
          ends = normal_if v n;
        }
