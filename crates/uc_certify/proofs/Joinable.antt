-- The two terms of a right join are joinable.
use Rattle.std.proofs.Common.{◌≡◌, ℕ, true, List, [], ◌∷◌, map, if◌then◌else◌, refl, sym, ap, ◌∙◌, subst, ◌⊎◌, inl, inr}
use Rattle.std.proofs.lemmas.Bool.{cases_Bool}
use Rattle.uc_term.specs.declared.equation.Equation.{Equation}
use Rattle.uc_term.specs.Equations.{side_of, other_side_of}
use Rattle.uc_term.specs.Tree.{Tree, apply}
use Rattle.uc_term.specs.Variables.{Occurs, is_among}
use Rattle.uc_term.specs.Within.{at_root, Steps, stay, go_by, Joined}
use Rattle.uc_term.specs.Conversion.{Turn}
use Rattle.uc_term.proofs.Agree.{same_if}
use Rattle.uc_term.proofs.Conversion.{Turn-sym, Turn-apply}
use Rattle.uc_term.proofs.Moves.{Joined-refl, Joined-before}
use Rattle.uc_order.specs.Members.{Each, In, in_front, in_rest, OnlyOne, only_front, only_rest}
use Rattle.uc_order.specs.VarOrders.{Classes, Among, HasOnly, Respects, represented}
use Rattle.uc_order.specs.Laws.{Meaning, Laws, HasSym, IsGroundOf, least_term}
use Rattle.uc_order.proofs.Exactly.{respected, has_all}
use Rattle.uc_order.proofs.Respected.{HasOnly-represented, represented-same, is_among-In, In-is_among}
use Rattle.uc_fact.specs.Ground.{IsJoinable}
use Rattle.uc_fact.specs.Live.{numbered}
use Rattle.uc_ground.specs.Joining.{IsInstance}
use Rattle.uc_ground.proofs.Grounded.{image_ground}
use Rattle.uc_certificate.specs.declared.certificate.Case.{Case}
use Rattle.uc_certificate.specs.declared.certificate.End.{End}
use Rattle.uc_certificate.specs.declared.certificate.End.TheVariants.{Same, Instance, Orders, Ac}
use Rattle.uc_certificate.specs.declared.certificate.Join.{Join}
use Rattle.uc_certify.specs.Moving.{moved}
use Rattle.uc_certify.specs.Joining.{IsRightCase, AreRightCases, IsRightEnd, Joins}
use Rattle.uc_certify.proofs.AcEnds.{triples_join}
use Rattle.uc_certify.proofs.Descending.{G, any_ground, any_down, case_down}
use Rattle.uc_certify.proofs.Numbered.{fact_there}

found : {P : Classes → Type 0} {orders : List Classes} → OnlyOne P orders → (cases : Classes) × In orders cases × P cases
found (only_front {x = cases} p n) = (cases, in_front, p)
found (only_rest n o) = let r = found o in (r.0, in_rest r.1, r.2)

-- the case of an order of variables
record HasCase (P : Case → Type 0) (order : Classes) : Type 0 where
  case : Case
  order_is : case.cases ≡ order
  right : P case

case_of : (P : Case → Type 0) (cases : List Case) (order : Classes) → In (map (λ (c : Case). c.cases) cases) order → Each P cases → HasCase P order
case_of P [] order i h = elim i [ ]
case_of P (c ∷ cs) _ in_front h = record { case = c; order_is = refl; right = h.0 }
case_of P (c ∷ cs) order (in_rest i) h = case_of P cs order i h.1

module _ (m : Meaning) (laws : Laws m) (facts : List Equation) where
  abbrev Bare : Tree → Type 0
  Bare = IsGroundOf m

  abbrev J : Tree → Tree → Type 0
  J = Joined (G m facts)

  -- the two sides of one instance of a fact, both of them ground
  turned : (u v : Tree) → Turn facts u v → Bare u → Bare v → J u v
  turned u v t gu gv = go (laws.total u v gu gv)
    where
      go : m.greater u v ⊎ ((u ≡ v) ⊎ m.greater v u) → J u v
      go (inl g) = record { meet = v; from_left = go_by (at_root (record { turn = t; u_ground = gu; v_ground = gv; greater = g })) stay; from_right = stay }
      go (inr (inl e)) = Joined-refl (G m facts) u v e
      go (inr (inr g)) = record { meet = u; from_left = stay; from_right = go_by (at_root (record { turn = Turn-sym facts u v t; u_ground = gv; v_ground = gu; greater = g })) stay }

  module _ (s t : Tree) where
    instance_turn : (k : ℕ) → IsInstance (numbered facts) s t k → Turn facts s t
    instance_turn k i = record {
      number = k;
      side = i.side;
      l = side_of i.side i.from.equation;
      r = other_side_of i.side i.from.equation;
      sides = record { equation = i.from.equation; equation_is = sym (fact_there facts k) ∙ i.from.equation_is; left_is = refl; right_is = refl };
      σ = i.from.σ;
      u_is = i.from.left_is;
      v_is = i.from.right_is;
    }

    -- THE ORDERS OF THE VARIABLES

    -- values that are ground for all variables, and the same for those of the two terms
    abbrev filled : List ℕ → (ℕ → Tree) → ℕ → Tree
    filled vars σ x = if is_among x vars then σ x else least_term m

    filled_same : (vars : List ℕ) (σ : ℕ → Tree) (x : ℕ) → In vars x → σ x ≡ filled vars σ x
    filled_same vars σ x i = rw (In-is_among x vars i) refl

    filled_bare : (vars : List ℕ) (σ : ℕ → Tree) → ((x : ℕ) → is_among x vars ≡ true → Bare (σ x)) → (x : ℕ) → Bare (filled vars σ x)
    filled_bare vars σ h x = elim (cases_Bool (is_among x vars)) as (λ _. Bare (filled vars σ x)) [
      | inl b ↦ rw b (h x b)
      | inr b ↦ rw b (laws.least_is.0, sym laws.least_is.1, tt)
    ]

    by_values : (cases : List Case) (r : AreRightCases m facts s t cases) (τ : ℕ → Tree) → ((x : ℕ) → Bare (τ x)) → Bare (apply τ s) → Bare (apply τ t) → J (apply τ s) (apply τ t)
    by_values cases r τ bare gs gt =
        let chosen = found (respected m.greater laws.irreflexive laws.transitive τ r.vars (λ x y i k. laws.total (τ x) (τ y) (bare x) (bare y))) in
        let c = case_of (IsRightCase m facts s t) cases chosen.0 (subst (λ (os : List Classes). In os chosen.0) (sym r.orders_are) chosen.1) r.right in
        let respects : Respects m.greater τ c.case.cases = subst (Respects m.greater τ) (sym c.order_is) chosen.2 in
        let known : (x : ℕ) → In r.vars x → Among c.case.cases x = λ x i. subst (λ (o : Classes). Among o x) (sym c.order_is) (has_all r.vars x i chosen.0 chosen.1) in
        let only_s : HasOnly c.case.cases s = λ x o. known x ((r.vars_are.each x).1 (inl o)) in
        let only_t : HasOnly c.case.cases t = λ x o. known x ((r.vars_are.each x).1 (inr o)) in
        let same_s = represented-same m.greater τ c.case.cases respects s in
        let same_t = represented-same m.greater τ c.case.cases respects t in
        let from_s = case_down m facts laws τ c.case.cases respects (λ x _. bare x) (represented c.case.cases s) c.case.left c.right.left_moves (HasOnly-represented c.case.cases s only_s) (subst Bare (sym same_s) gs) in
        let from_t = case_down m facts laws τ c.case.cases respects (λ x _. bare x) (represented c.case.cases t) c.case.right c.right.right_moves (HasOnly-represented c.case.cases t only_t) (subst Bare (sym same_t) gt) in
        record {
          meet = apply τ (moved (represented c.case.cases s) c.case.left);
          from_left = subst (λ (u : Tree). Steps (G m facts) u (apply τ (moved (represented c.case.cases s) c.case.left))) same_s from_s;
          from_right = subst (λ (u : Tree). Steps (G m facts) u (apply τ (moved (represented c.case.cases s) c.case.left))) same_t (subst (λ (u : Tree). Steps (G m facts) (apply τ (represented c.case.cases t)) (apply τ u)) (sym c.right.meet) from_t);
        }

    cases_join : (cases : List Case) → AreRightCases m facts s t cases → IsJoinable m.greater (HasSym m) m.arity facts s t
    cases_join cases r σ gs gt =
        let τ = filled r.vars σ in
        let es : apply σ s ≡ apply τ s = same_if σ τ s (λ x o. filled_same r.vars σ x ((r.vars_are.each x).1 (inl o))) in
        let et : apply σ t ≡ apply τ t = same_if σ τ t (λ x o. filled_same r.vars σ x ((r.vars_are.each x).1 (inr o))) in
        rw (es, et) (by_values cases r τ (filled_bare r.vars σ bare) (subst Bare es gs) (subst Bare et gt))
      where
        bare_by : (x : ℕ) → Occurs x s ⊎ Occurs x t → Bare (σ x)
        bare_by x (inl o) = image_ground (HasSym m) m.arity σ s x o gs
        bare_by x (inr o) = image_ground (HasSym m) m.arity σ t x o gt

        bare : (x : ℕ) → is_among x r.vars ≡ true → Bare (σ x)
        bare x b = bare_by x ((r.vars_are.each x).0 (is_among-In x r.vars b))

    end_joins : (end : End) → IsRightEnd m facts s t end → IsJoinable m.greater (HasSym m) m.arity facts s t
    end_joins Same e = λ σ gs gt. Joined-refl (G m facts) (apply σ s) (apply σ t) (ap (apply σ) e)
    end_joins (Instance k) i = λ σ gs gt. turned (apply σ s) (apply σ t) (Turn-apply facts σ s t (instance_turn k i)) gs gt
    end_joins (Orders cases) r = cases_join cases r
    end_joins (Ac triples) r = triples_join m laws facts s t triples r

  -- moves lead from both to ends that are joinable
  pub joins : (l r : Tree) (join : Join) → Joins m facts l r join → IsJoinable m.greater (HasSym m) m.arity facts l r
  joins l r join j σ gl gr =
      Joined-before (G m facts)
      (any_down m facts laws σ l join.left j.left_moves gl)
      (any_down m facts laws σ r join.right j.right_moves gr)
      (end_joins (moved l join.left) (moved r join.right) join.end j.ends σ (any_ground m facts laws σ l join.left j.left_moves gl) (any_ground m facts laws σ r join.right j.right_moves gr))
