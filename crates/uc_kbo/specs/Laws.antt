-- The order of a table of weights keeps the laws of an order.
use Rattle.std.proofs.Common.{◌≡◌, ℕ, ◌+◌, ◌<◌, ◌≤◌, sym, ap, subst, arith, ◌⊎◌, inl, inr, List, [], ◌∷◌, ◌++◌}
use Rattle.uc_term.specs.declared.node.Sym.{Sym}
use Rattle.uc_term.specs.Tree.{Tree, var, app, Trees, none, more, apply, apply_all}
use Rattle.uc_term.specs.Over.{IsGround, AreGround}
use Rattle.uc_term.specs.Variables.{variables, variables_all, is_among, Occurs, is_itself, in_args, OccursIn, in_first, in_later}
use Rattle.uc_order.specs.Members.{In, Each}
use Rattle.uc_order.specs.VarOrders.{Classes, Among, HasOnly, class_of, IsHigher, EachVar, represented, Respects}
use Rattle.uc_order.specs.Laws.{Laws}
use Rattle.uc_order.proofs.Exactly.{Each-at}
use Rattle.uc_order.proofs.Respected.{is_among-In, later, HasOnly-represented, represented-same, higher_greater}
use Rattle.uc_kbo.specs.declared.weights.Weighed.{Weighed}
use Rattle.uc_kbo.specs.Kbo.{Weighing, weight, is_it, None, is_from, KboUnder}
use Rattle.uc_kbo.specs.Weights.{symbols_of, arity_in, weighing, IsTable, kbo_meaning}
use Rattle.uc_kbo.specs.Sums.{occurrences, sum_by-le}
use Rattle.uc_kbo.specs.Order.{Admissible, Greater, irreflexive, transitive, contexts, subterms, lighter}
use Rattle.uc_kbo.specs.Instances.{gain, occurrences-apply, Keeps, kept}
use Rattle.uc_kbo.specs.WellFounded.{accessible}
use Rattle.uc_kbo.specs.Table.{bool_cases, if_true, if_false, admissible}
use Rattle.uc_kbo.specs.Rises.{no_greater_sum}
use Rattle.uc_kbo.specs.Refining.{refined, one_way}
use Rattle.uc_kbo.specs.Ground.{no_variables, total_ground, least_is, bottom, binary}

module _ (w : Weighing) (ok : Admissible w) where
  -- instances keep the order
  instances_keep : (σ : ℕ → Tree) → Keeps w ok σ is_it None (λ _. Unit {0}) (λ _. Unit {0})
  instances_keep σ = record {
    args = λ f ts g. tt;
    first = λ t ts g. tt;
    rest = λ t ts g. tt;
    gains = λ s t gs gt c. sum_by-le (gain w ok σ) (variables t) (variables s) c;
    covers = λ s t gs gt c y. omega (arith, occurrences-apply w ok σ y s, occurrences-apply w ok σ y t, sum_by-le (λ x. occurrences y (variables (σ x))) (variables t) (variables s) c);
    raises = λ x y gx gy a. absurd a;
  }

  pub instances : (σ : ℕ → Tree) (s t : Tree) → Greater w s t → Greater w (apply σ s) (apply σ t)
  instances σ s t k = kept w ok σ is_it None (λ _. Unit {0}) (λ _. Unit {0}) (instances_keep σ) s t tt tt k

each_append : (P : ℕ → Type 0) (xs ys : List ℕ) → Each P xs → Each P ys → Each P (xs ++ ys)
each_append P [] ys e f = f
each_append P (x ∷ xs) ys e f = (e.0, each_append P xs ys e.1 f)

mutual
  known_variables : (P : ℕ → Type 0) (t : Tree) → ((x : ℕ) → Occurs x t → P x) → Each P (variables t)
  known_variables P (var x) h = (h x is_itself, tt)
  known_variables P (app f ts) h = known_variables_all P ts (λ x o. h x (in_args o))

  known_variables_all : (P : ℕ → Type 0) (ts : Trees) → ((x : ℕ) → OccursIn x ts → P x) → Each P (variables_all ts)
  known_variables_all P none h = tt
  known_variables_all P (more t ts) h = each_append P (variables t) (variables_all ts) (known_variables P t (λ x o. h x (in_first o))) (known_variables_all P ts (λ x o. h x (in_later o)))

-- variables of one class have one term
module _ (Greater : Tree → Tree → Type 0) (σ : ℕ → Tree) where
  same_class : (cs : Classes) (x y : ℕ) → Respects Greater σ cs → Among cs x → Among cs y → class_of cs x ≡ class_of cs y → σ x ≡ σ y
  same_class [] x y r a b e = elim a [ ]
  same_class (c ∷ cs) x y r a b e = elim (bool_cases (is_among x c)) [
    | inl p ↦ (let kx = if_true (is_among x c) 0 (class_of cs x + 1) p in elim (bool_cases (is_among y c)) [
      | inl q ↦ Each-at (λ z. σ x ≡ σ z) c y (Each-at (λ z. Each (λ v. σ z ≡ σ v) c × EachVar (λ v. Greater (σ v) (σ z)) cs) c x r.0 (is_among-In x c p)).0 (is_among-In y c q)
      | inr q ↦ absurd (let ky = if_false (is_among y c) 0 (class_of cs y + 1) q in omega (arith, e, kx, ky))
    ])
    | inr p ↦ (let kx = if_false (is_among x c) 0 (class_of cs x + 1) p in elim (bool_cases (is_among y c)) [
      | inl q ↦ absurd (let ky = if_true (is_among y c) 0 (class_of cs y + 1) q in omega (arith, e, kx, ky))
      | inr q ↦ (let ky = if_false (is_among y c) 0 (class_of cs y + 1) q in same_class cs x y r.1 (later x c cs p a) (later y c cs q b) (omega (arith, e, kx, ky)))
    ])
  ]

module _ (w : Weighing) (ok : Admissible w) (has : Sym → Type 0) (arity : Sym → ℕ) (cs : Classes) (σ : ℕ → Tree) (respects : Respects (Greater w) σ cs) where
  abbrev Good : Tree → Type 0
  Good t = HasOnly cs t × IsGround has arity (apply σ t)

  abbrev GoodAll : Trees → Type 0
  GoodAll ts = ((x : ℕ) → OccursIn x ts → Among cs x) × AreGround has arity (apply_all σ ts)

  rising_by : (x y : ℕ) → Among cs x → Among cs y → (class_of cs x < class_of cs y) ⊎ (class_of cs x ≡ class_of cs y) → gain w ok σ x ≤ gain w ok σ y
  rising_by x y a b (inl l) = omega (arith, lighter w ok (σ y) (σ x) (higher_greater (Greater w) σ cs y x respects b a l))
  rising_by x y a b (inr e) = omega (arith, ap (weight w) (same_class (Greater w) σ cs x y respects a b e))

  less_or_equal : (a b : ℕ) → a ≤ b → (a < b) ⊎ (a ≡ b)
  less_or_equal a b h = grind arith

  under_keeps : Keeps w ok σ (is_from cs) (IsHigher cs) Good GoodAll
  under_keeps = record {
    args = λ f ts g. (λ x o. g.0 x (in_args o), g.1.2);
    first = λ t ts g. (λ x o. g.0 x (in_first o), g.1.0);
    rest = λ t ts g. (λ x o. g.0 x (in_later o), g.1.1);
    gains = λ s t gs gt c. no_greater_sum (gain w ok σ) (class_of cs) (Among cs) (λ x y a b h. rising_by x y a b (less_or_equal (class_of cs x) (class_of cs y) h)) (variables s) (variables t) (known_variables (Among cs) s gs.0) (known_variables (Among cs) t gt.0) c;
    covers = λ s t gs gt c k. omega (arith, ap (occurrences k) (no_variables has arity (apply σ t) gt.1));
    raises = λ x y gx gy h. higher_greater (Greater w) σ cs x y respects (gx.0 x is_itself) (gy.0 y is_itself) h;
  }

  pub under_holds : (s t : Tree) → HasOnly cs s → HasOnly cs t → IsGround has arity (apply σ s) → IsGround has arity (apply σ t) → KboUnder w cs s t → Greater w (apply σ s) (apply σ t)
  under_holds s t hs ht gs gt k =
      let es = represented-same (Greater w) σ cs respects s in
      let et = represented-same (Greater w) σ cs respects t in
      let P : Tree → Type 0 = IsGround has arity in
      let r = kept w ok σ (is_from cs) (IsHigher cs) Good GoodAll under_keeps (represented cs s) (represented cs t)
      (HasOnly-represented cs s hs, subst P (sym es) gs) (HasOnly-represented cs t ht, subst P (sym et) gt) k in
      let Q : Tree → Type 0 = λ u. Greater w u (apply σ t) in
      let R : Tree → Type 0 = λ u. Greater w (apply σ (represented cs s)) u in
      subst Q es (subst R et r)

pub kbo_laws : (w0 : ℕ) (es : List Weighed) → IsTable w0 es → Laws (kbo_meaning w0 es)
kbo_laws w0 es table =
    let ok = admissible w0 es table in
    let w = weighing w0 es in
    record {
      irreflexive = irreflexive w;
      transitive = transitive w ok;
      instances = instances w ok;
      contexts = contexts w ok;
      subterms = subterms w ok;
      total = total_ground w0 es table;
      well_founded = accessible w ok (In (symbols_of es)) (arity_in es);
      least_is = least_is w0 es table;
      bottom = bottom w0 es table;
      under_holds = λ cs σ s t hs ht r gs gt k. under_holds w ok (In (symbols_of es)) (arity_in es) cs σ r s t hs ht gs gt k;
      refined = refined w;
      one_way = one_way w;
      binary = binary w0 es table;
    }
