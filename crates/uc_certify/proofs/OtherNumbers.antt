-- What is the same of facts with other numbers in the same order: steps, normal forms, and the answer of the test for ground
-- joinability.
use Rattle.std.proofs.Common.{◌≡◌, ℕ, ◌<◌, ◌≤◌, ◌==◌, ◌⊎◌, inl, inr, Bool, true, false, if◌then◌else◌, List, [], ◌∷◌, map, Option, Some, refl, sym, ap, ap₂, ◌∙◌, subst, arith}
use Rattle.std.proofs.lemmas.Bool.{cases_Bool, eqb-true, eqb-false, ne_eqb, eq-eqb}
use Rattle.uc_term.specs.declared.node.Sym.{Sym}
use Rattle.uc_term.specs.declared.equation.Equation.{Equation}
use Rattle.uc_term.specs.declared.equation.Side.TheVariants.{Left, Right}
use Rattle.uc_term.specs.Tree.{Tree, Trees}
use Rattle.uc_order.specs.VarOrders.{Classes, orders_of, represented}
use Rattle.uc_order.specs.Laws.{Meaning}
use Rattle.uc_fact.specs.declared.chain.Step.{Step}
use Rattle.uc_fact.specs.declared.fact.Stop.{Stop}
use Rattle.uc_fact.specs.declared.joinable.Joinable.{Joinable}
use Rattle.uc_fact.specs.declared.joinable.Joinable.TheVariants.{Joined, Apart, TooManyVariables}
use Rattle.uc_fact.specs.declared.joinable.Reason.{Reason}
use Rattle.uc_fact.specs.declared.joinable.Reason.TheVariants as reason
use Rattle.uc_fact.specs.Live.{Live, Rule, rule_of, rules_of, equations_of, fact_at}
use Rattle.uc_fact.specs.Ordered.{IsIrreducible, IsIrreducibleBelow}
use Rattle.uc_rewrite.specs.declared.normal.Normal.{Normal}
use Rattle.uc_rewrite.specs.Normalising.{Makes, FirstRule, this_rule, later_rule, FirstStep, in_arguments, at_the_term, FirstStepAmong, in_this, in_another, Normalises, is_full, is_spent, is_large, goes_on, step_by, IsNormalOf}
use Rattle.uc_ground.specs.Joining.{IsInstance, IsLeastInstance, IsNoInstance, ComesTo, IsTriedUnder, agree_under_all, agree_under, differ_under, IsAnswer, are_equal, are_sides, have_many, are_tried, IsJoined}

-- what the numbers become
module _ (ν : ℕ → ℕ) where
  abbrev pub renamed : Live → Live
  renamed f = record { number = ν f.number; equation = f.equation }

  abbrev pub renamed_rule : Rule → Rule
  renamed_rule r = record { number = ν r.number; side = r.side; from = r.from; to = r.to }

  pub same_equations : (fs : List Live) → equations_of (map renamed fs) ≡ equations_of fs
  same_equations [] = refl
  same_equations (f ∷ fs) = ap (λ (es : List Equation). f.equation ∷ es) (same_equations fs)

  same_rules : (fs : List Live) → rules_of (map renamed fs) ≡ map renamed_rule (rules_of fs)
  same_rules [] = refl
  same_rules (f ∷ fs) = ap (λ (rs : List Rule). renamed_rule (rule_of Left f) ∷ renamed_rule (rule_of Right f) ∷ rs) (same_rules fs)

  -- STEPS

  module _ (Greater : Tree → Tree → Type 0) (least : Sym) where
    makes : (r : Rule) (u v : Tree) → Makes Greater least (renamed_rule r) u v → Makes Greater least r u v
    makes r u v m = record { σ = m.σ; u_is = m.u_is; v_is = m.v_is; completed = m.completed; greater = m.greater }

    makes_back : (r : Rule) (u v : Tree) → Makes Greater least r u v → Makes Greater least (renamed_rule r) u v
    makes_back r u v m = record { σ = m.σ; u_is = m.u_is; v_is = m.v_is; completed = m.completed; greater = m.greater }

    first_rule : (u v : Tree) (rules : List Rule) (r : Rule) → FirstRule Greater least u v (map renamed_rule rules) r → (own : Rule) × FirstRule Greater least u v rules own
    first_rule u v [] r f = elim f [ ]
    first_rule u v (x ∷ rules) _ (this_rule m) = (x, this_rule (makes x u v m))
    first_rule u v (x ∷ rules) r (later_rule n f) = let rest = first_rule u v rules r f in (rest.0, later_rule (λ w m. n w (makes_back x u w m)) rest.1)

    module _ (fs : List Live) where
      abbrev others : List Live
      others = map renamed fs

      mutual
        first_step : (u : Tree) (place : ℕ) (r : Rule) (v : Tree) → FirstStep Greater least others u place r v → (own : Rule) × FirstStep Greater least fs u place own v
        first_step _ _ r _ (in_arguments {us = us} {vs = vs} {place = p} s) = let q = first_among us p r vs s in (q.0, in_arguments q.1)
        first_step u _ r v (at_the_term below f) =
            let q = first_rule u v (rules_of fs) r (subst (λ (rs : List Rule). FirstRule Greater least u v rs r) (same_rules fs) f) in
            (q.0, at_the_term (subst (λ (es : List Equation). IsIrreducibleBelow Greater least es u) (same_equations fs) below) q.1)

        first_among : (us : Trees) (place : ℕ) (r : Rule) (vs : Trees) → FirstStepAmong Greater least others us place r vs → (own : Rule) × FirstStepAmong Greater least fs us place own vs
        first_among _ _ r _ (in_this {u = u} {v = v} {place = p} s) = let q = first_step u p r v s in (q.0, in_this q.1)
        first_among _ _ r _ (in_another {t = t} {us = us} {vs = vs} {place = p} i s) =
            let q = first_among us p r vs s in
            (q.0, in_another (subst (λ (es : List Equation). IsIrreducible Greater least es t) (same_equations fs) i) q.1)

      normalises : (limit : ℕ) (t : Tree) (steps : List Step) (end : Tree) (stop : Stop) → Normalises Greater least others limit t steps end stop → (own : List Step) × Normalises Greater least fs limit t own end stop
      normalises limit t _ _ _ (is_full i) = ([], is_full (subst (λ (es : List Equation). IsIrreducible Greater least es t) (same_equations fs) i))
      normalises _ t _ _ _ (is_spent {v = v} {place = p} {rule = r} s) = ([], is_spent (first_step t p r v s).1)
      normalises _ t _ _ _ (is_large {v = v} {place = p} {rule = r} s l) = ([], is_large (first_step t p r v s).1 l)
      normalises _ t _ end stop (goes_on {limit = limit} {v = v} {place = p} {rule = r} {steps = steps} s l n) =
          let q = first_step t p r v s in
          let rest = normalises limit v steps end stop n in
          (step_by q.0 p v ∷ rest.0, goes_on q.1 l rest.1)

      -- a term has the same normal form
      pub normal_of : (limit : ℕ) (t : Tree) (n : Normal) → IsNormalOf Greater least others limit t n → (own : Normal) × IsNormalOf Greater least fs limit t own × (own.term ≡ n.term)
      normal_of limit t n i =
          let q = normalises limit t n.chain.steps n.term n.stop i.normalises in
          (record { term = n.term; chain = record { start = t; steps = q.0 }; stop = n.stop }, record { start = refl; normalises = q.1 }, refl)

  -- ENDS

  module _ (rises : (i j : ℕ) → i < j → ν i < ν j) where
    pub one_number : (i j : ℕ) → ν i ≡ ν j → i ≡ j
    one_number i j e = go order
      where
        order : (i ≡ j) ⊎ ((i < j) ⊎ (j < i))
        order = grind arith

        go : (i ≡ j) ⊎ ((i < j) ⊎ (j < i)) → i ≡ j
        go (inl same) = same
        go (inr (inl l)) = let h = rises i j l in absurd (omega (arith, h, e))
        go (inr (inr l)) = let h = rises j i l in absurd (omega (arith, h, e))

    pub rises_back : (i j : ℕ) → ν i < ν j → i < j
    rises_back i j h = go order
      where
        order : (i ≡ j) ⊎ ((i < j) ⊎ (j < i))
        order = grind arith

        go : (i ≡ j) ⊎ ((i < j) ⊎ (j < i)) → i < j
        go (inl same) = let e = ap ν same in absurd (omega (arith, h, e))
        go (inr (inl l)) = l
        go (inr (inr l)) = let k = rises j i l in absurd (omega (arith, h, k))

    at_most : (i j : ℕ) → ν i ≤ ν j → i ≤ j
    at_most i j h = go order
      where
        order : (i ≤ j) ⊎ (j < i)
        order = grind arith

        go : (i ≤ j) ⊎ (j < i) → i ≤ j
        go (inl l) = l
        go (inr l) = let k = rises j i l in absurd (omega (arith, h, k))

    same_test : (i j : ℕ) → (ν i == ν j) ≡ (i == j)
    same_test i j = elim (cases_Bool (i == j)) as (λ _. (ν i == ν j) ≡ (i == j)) [
      | inl b ↦ eq-eqb (ν i) (ν j) (ap ν (eqb-true i j b)) ∙ sym b
      | inr b ↦ ne_eqb (ν i) (ν j) (λ e. eqb-false i j b (one_number i j e)) ∙ sym b
    ]

    pub at_number : (fs : List Live) (k : ℕ) → fact_at (map renamed fs) (ν k) ≡ fact_at fs k
    at_number [] k = refl
    at_number (f ∷ fs) k = ap₂ (λ (b : Bool) (o : Option Equation). if b then Some f.equation else o) (same_test f.number k) (at_number fs k)

    -- it has one of the numbers
    pub named_at : (fs : List Live) (n : ℕ) (e : Equation) → fact_at (map renamed fs) n ≡ Some e → (k : ℕ) × (n ≡ ν k)
    named_at [] n e h = absurd cc
    named_at (f ∷ fs) n e h = go (ν f.number == n) refl h (λ later. named_at fs n e later)
      where
        go : (b : Bool) → (ν f.number == n) ≡ b → (if b then Some f.equation else fact_at (map renamed fs) n) ≡ Some e → (fact_at (map renamed fs) n ≡ Some e → (k : ℕ) × (n ≡ ν k)) → (k : ℕ) × (n ≡ ν k)
        go true b here later = (f.number, sym (eqb-true (ν f.number) n b))
        go false b here later = later here

    module _ (fs : List Live) (s t : Tree) where
      abbrev others_of : List Live
      others_of = map renamed fs

      instance_on : (k : ℕ) → IsInstance fs s t k → IsInstance others_of s t (ν k)
      instance_on k i = record { side = i.side; from = record { equation = i.from.equation; equation_is = at_number fs k ∙ i.from.equation_is; σ = i.from.σ; left_is = i.from.left_is; right_is = i.from.right_is } }

      instance_back : (n : ℕ) → IsInstance others_of s t n → (k : ℕ) × (n ≡ ν k) × IsInstance fs s t k
      instance_back n i =
          let k = named_at fs n i.from.equation i.from.equation_is in
          let there : fact_at fs k.0 ≡ Some i.from.equation = sym (at_number fs k.0) ∙ ap (fact_at others_of) (sym k.1) ∙ i.from.equation_is in
          (k.0, k.1, record { side = i.side; from = record { equation = i.from.equation; equation_is = there; σ = i.from.σ; left_is = i.from.left_is; right_is = i.from.right_is } })

      least_back : (n : ℕ) → IsLeastInstance others_of s t n → (k : ℕ) × IsLeastInstance fs s t k
      least_back n l =
          let i = instance_back n l.is_one in
          (i.0, record { is_one = i.2; least = λ other o. at_most i.0 other (subst (λ (x : ℕ). x ≤ ν other) i.1 (l.least (ν other) (instance_on other o))) })

      none_back : IsNoInstance others_of s t → IsNoInstance fs s t
      none_back none k i = none (ν k) (instance_on k i)

      module _ (m : Meaning) where
        comes : (cases : Classes) (u end : Tree) → ComesTo m others_of cases u end → ComesTo m fs cases u end
        comes cases u end c =
            let n = normal_of (m.under cases) m.least fs 4096 (represented cases u) c.normal c.normal_is in
            record { normal = n.0; normal_is = n.1; end_is = n.2 ∙ c.end_is }

        tried : (orders : List Classes) (answer : Joinable) → IsTriedUnder m others_of s t orders answer → IsTriedUnder m fs s t orders answer
        tried _ _ agree_under_all = agree_under_all
        tried _ answer (agree_under {cases = cases} {orders = orders} {end = end} a b r) = agree_under (comes cases s end a) (comes cases t end b) (tried orders answer r)
        tried _ _ (differ_under {cases = cases} {left = left} {right = right} a b n) = differ_under (comes cases s left a) (comes cases t right b) n

        joined_by : (answer : Joinable) → IsJoined answer → (why : Reason) × (answer ≡ Joined why)
        joined_by (Joined why) j = (why, refl)
        joined_by (Apart cases left right) j = absurd j
        joined_by (TooManyVariables n) j = absurd j

        -- two ends are joined
        pub answer_of : (answer : Joinable) → IsAnswer m others_of s t answer → IsJoined answer → (why : Reason) × IsAnswer m fs s t (Joined why)
        answer_of _ (are_equal e) j = (reason.Same, are_equal e)
        answer_of _ (are_sides {number = n} ne l) j = let k = least_back n l in (reason.Instance k.0, are_sides ne k.1)
        answer_of _ (have_many ne i v h) j = absurd j
        answer_of answer (are_tried {vars = vars} ne i v h r) j =
            let why = joined_by answer j in
            (why.0, are_tried ne (none_back i) v h (tried (orders_of vars) (Joined why.0) (subst (IsTriedUnder m others_of s t (orders_of vars)) why.1 r)))
