-- Terms that axioms make equal have the same normal form by facts that converge, and it is the least of them.
use Rattle.std.proofs.Common.{◌≡◌, ℕ, ◌+◌, ◌==◌, Bool, true, false, List, Some, slice_get, refl, ap, ◌∙◌, subst, ◌⊎◌, inl, inr}
use Rattle.uc_term.specs.declared.node.Sym.{Sym}
use Rattle.uc_term.specs.declared.equation.Equation.{Equation}
use Rattle.uc_term.specs.declared.equation.Side.{Side}
use Rattle.uc_term.specs.declared.equation.Side.TheVariants.{Left, Right}
use Rattle.uc_term.specs.Equations.{Sides}
use Rattle.uc_term.specs.Tree.{Tree, app, Trees, apply, count}
use Rattle.uc_term.specs.Within.{at_root, under, WithinOne, at_first, at_later, stay, go_by, Joined}
use Rattle.uc_term.specs.Conversion.{Turn, Step, Conv}
use Rattle.uc_term.proofs.Moves.{Steps-trans, Joined-refl, Joined-sym, AllJoined, join_under, join_first, join_later}
use Rattle.uc_term.proofs.Conversion.{Conv-sym}
use Rattle.uc_order.specs.Laws.{Meaning, Laws, HasSym, IsGroundOf, least_term}
use Rattle.uc_fact.specs.Live.{Live, equations_of}
use Rattle.uc_fact.specs.Ground.{AreOfSignature}
use Rattle.uc_decide.specs.NormalForms.{GroundStep, HasNormalForm, IsLocallyConfluent}
use Rattle.uc_decide.specs.Converging.{AreJoinableAxioms, FollowFrom, Converge}
use Rattle.uc_decide.specs.Deciding.{Decides}
use Rattle.uc_decide.proofs.Members.{is_in}
use Rattle.uc_decide.proofs.GroundSteps.{D, moves_conv, moves_greater}
use Rattle.uc_decide.proofs.Peaks.{locally_confluent}
use Rattle.uc_decide.proofs.Newman.{to_normal, unique, Joined-trans, normal}
use Rattle.uc_decide.proofs.Reducible.{place}
use Rattle.uc_decide.proofs.Clean.{fitted, clean, clean_all, clean_ground, clean-ground, clean-apply}

module _ (m : Meaning) (laws : Laws m) (live : List Live) (axioms : List Equation) where
  abbrev es : List Equation
  es = equations_of live

  abbrev G : Tree → Tree → Type 0
  G = GroundStep m es

  known : (f : Sym) → HasSym m f ⊎ (HasSym m f → ⊥)
  known = is_in m.symbols

  module _ (local : IsLocallyConfluent m es) (join : AreJoinableAxioms m live axioms) (over : AreOfSignature (HasSym m) m.arity axioms) where
    abbrev Clean : Tree → Tree
    Clean = clean m laws known

    axiom_joined : (i : ℕ) (f : Equation) → slice_get axioms i ≡ Some f → (l r : Tree) → l ≡ f.left → r ≡ f.right → (σ : ℕ → Tree) → Joined G (Clean (apply σ l)) (Clean (apply σ r))
    axiom_joined i f f_is l r l_is r_is σ =
        let o = over i f f_is in
        let e : Clean (apply σ l) ≡ apply (λ x. Clean (σ x)) f.left = ap (λ t. Clean (apply σ t)) l_is ∙ clean-apply m laws known σ f.left o.0 in
        let q : Clean (apply σ r) ≡ apply (λ x. Clean (σ x)) f.right = ap (λ t. Clean (apply σ t)) r_is ∙ clean-apply m laws known σ f.right o.1 in
        rw (e, q) (join i f f_is (λ x. Clean (σ x)) (subst (IsGroundOf m) e (clean_ground m laws known (apply σ l))) (subst (IsGroundOf m) q (clean_ground m laws known (apply σ r))))

    turn_joined : (i : ℕ) (a : Side) (l r : Tree) → Sides axioms i a l r → (σ : ℕ → Tree) → Joined G (Clean (apply σ l)) (Clean (apply σ r))
    turn_joined i Left l r s σ = axiom_joined i s.equation s.equation_is l r s.left_is s.right_is σ
    turn_joined i Right l r s σ = Joined-sym G (axiom_joined i s.equation s.equation_is r l s.right_is s.left_is σ)

    fitted_joined : (f : Sym) (k : HasSym m f ⊎ (HasSym m f → ⊥)) (b : Bool) (ts us : Trees) → AllJoined (D m es) ts us → Joined G (fitted m laws known f k b ts) (fitted m laws known f k b us)
    fitted_joined f (inl h) true ts us j = join_under (D m es) f j
    fitted_joined f (inl h) false ts us j = Joined-refl G (least_term m) (least_term m) refl
    fitted_joined f (inr n) b ts us j = Joined-refl G (least_term m) (least_term m) refl

    abbrev CleanAll : Trees → Trees
    CleanAll = clean_all m laws known

    under_joined : (f : Sym) (us vs : Trees) → count us ≡ count vs → AllJoined (D m es) (CleanAll us) (CleanAll vs) → Joined G (Clean (app f us)) (Clean (app f vs))
    under_joined f us vs e j = rw e (fitted_joined f (known f) (count vs == m.arity f) (CleanAll us) (CleanAll vs) j)

    mutual
      step_joined : {u v : Tree} → Step axioms u v → Joined G (Clean u) (Clean v)
      step_joined (at_root t) = rw (t.u_is, t.v_is) (turn_joined t.number t.side t.l t.r t.sides t.σ)
      step_joined (under {f = f} {us = us} {vs = vs} o) = under_joined f us vs (once_count o) (once_joined o)

      once_joined : {us vs : Trees} → WithinOne (Turn axioms) us vs → AllJoined (D m es) (CleanAll us) (CleanAll vs)
      once_joined (at_first {ts = ts} s) = join_first (D m es) (CleanAll ts) (step_joined s)
      once_joined (at_later {t = t} o) = join_later (D m es) (Clean t) (once_joined o)

      once_count : {us vs : Trees} → WithinOne (Turn axioms) us vs → count us ≡ count vs
      once_count (at_first s) = refl
      once_count (at_later o) = ap (λ n. n + 1) (once_count o)

    clean_joined : {u v : Tree} → Conv axioms u v → Joined G (Clean u) (Clean v)
    clean_joined {u = u} stay = Joined-refl G (Clean u) (Clean u) refl
    clean_joined {u = u} {v = w} (go_by {v = v} s c) = Joined-trans m laws es local (Clean u) (Clean v) (Clean w) (clean_ground m laws known v) (step_joined s) (clean_joined c)

    pub conv_joined : (u v : Tree) → IsGroundOf m u → IsGroundOf m v → Conv axioms u v → Joined G u v
    conv_joined u v g h c =
        let e : Clean u ≡ u = clean-ground m laws known u g in
        let q : Clean v ≡ v = clean-ground m laws known v h in
        let P : Tree → Tree → Type 0 = λ x y. Joined G x y in
        subst (λ (y : Tree). Joined G u y) q (subst (λ (x : Tree). Joined G x (Clean v)) e (clean_joined c))

    pub same_end : (u v n k : Tree) → IsGroundOf m u → IsGroundOf m v → HasNormalForm m es u n → HasNormalForm m es v k → Conv axioms u v → n ≡ k
    same_end u v n k g h f p c =
        let j = conv_joined u v g h c in
        let to = to_normal m laws es local u j.meet n g j.from_left f in
        unique m laws es local v n k h (record { leads = Steps-trans G j.from_right to; ends = f.ends }) p

    one_class : FollowFrom axioms es → (u v n k : Tree) → HasNormalForm m es u n → HasNormalForm m es v k → n ≡ k → Conv axioms u v
    one_class follow u v n k f p e = Steps-trans (Step axioms) (moves_conv m es axioms follow f.leads) (rw e (Conv-sym axioms (moves_conv m es axioms follow p.leads)))

    least_of_class : (u v n : Tree) → IsGroundOf m u → IsGroundOf m v → HasNormalForm m es u n → Conv axioms u v → (n ≡ v) ⊎ m.greater v n
    least_of_class u v n g h f c =
        let j = conv_joined u v g h c in
        moves_greater m laws es v n (Steps-trans G j.from_right (to_normal m laws es local u j.meet n g j.from_left f))

  pub decides : Converge m live axioms → AreOfSignature (HasSym m) m.arity es → AreOfSignature (HasSym m) m.arity axioms → Decides m es axioms
  decides c facts_over over =
      let local = locally_confluent m laws live c.overlaps c.rising in
      record {
        well_order = record { total = laws.total; well_founded = laws.well_founded };
        one_normal_form = λ u g. let f = normal m laws es (place m laws es facts_over) u g in record { normal = f.0; is_one = f.1; only = λ n k. unique m laws es local u n f.0 g k f.1 };
        shared = λ u v n k g h f p. (one_class local c.axioms_join over c.facts_follow u v n k f p, same_end local c.axioms_join over u v n k g h f p);
        least = least_of_class local c.axioms_join over;
      }
