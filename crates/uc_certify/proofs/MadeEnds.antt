-- Why two ends are joined: what the tests of them answer, and that the end of a join that says so is right.
use Rattle.std.proofs.Common.{◌≡◌, ℕ, ◌≤◌, Some, List, [], ◌∷◌, ◌++◌, length, map, refl, sym, ap, ap₂, ◌∙◌, subst, append_assoc, append-nil}
use Rattle.uc_term.specs.declared.equation.Equation.{Equation}
use Rattle.uc_term.specs.Over.{IsOver, IsTerm}
use Rattle.uc_term.specs.Tree.{Tree, var}
use Rattle.uc_fact.specs.Ground.{AreOfSignature}
use Rattle.uc_fact.specs.Live.{Live, numbered}
use Rattle.uc_fact.specs.declared.joinable.Joinable.{Joinable}
use Rattle.uc_fact.specs.declared.joinable.Joinable.TheVariants.{Joined}
use Rattle.uc_fact.specs.declared.joinable.Reason.{Reason}
use Rattle.uc_fact.specs.declared.joinable.Reason.TheVariants as reason
use Rattle.uc_order.specs.Members.{In, Each}
use Rattle.uc_order.specs.VarOrders.{Classes, Among, HasOnly, orders_of, represented, representative}
use Rattle.uc_order.specs.Laws.{Meaning, HasSym, Laws}
use Rattle.uc_order.proofs.Respected.{representative-among}
use Rattle.uc_ground.specs.Joining.{AreVariables, IsLeastInstance, IsInstance, IsTriedUnder, agree_under_all, agree_under, differ_under, IsAnswer, are_equal, are_sides, have_many, are_tried}
use Rattle.uc_ground.specs.Ends.{EndsAgree}
use Rattle.uc_ground.proofs.Tried.{all_members, known_left, known_right}
use Rattle.uc_ground.proofs.Unique.{one_variables}
use Rattle.uc_ac.specs.Joining.{IsAcAnswer}
use Rattle.uc_ac.specs.Ends.{IsEndsAnswer, equal_by_facts, not_equal_so}
use Rattle.uc_runs.proofs.OverTerms.{instance_over}
use Rattle.uc_certificate.specs.declared.certificate.Case.{Case}
use Rattle.uc_certificate.specs.declared.certificate.End.{End}
use Rattle.uc_certificate.specs.declared.certificate.End.TheVariants.{Same, Instance, Orders, Ac}
use Rattle.uc_certify.specs.Joining.{IsRightCase, IsRightEnd}
use Rattle.uc_certify.specs.Making.{IsMadeCase, AreMadeCases, SaysWhy}
use Rattle.uc_certify.proofs.AcEnds.{triples_right}
use Rattle.uc_certify.proofs.MadeMoves.{moves_made}

module _ (m : Meaning) (live : List Live) (s t : Tree) where
  -- what is known of two ends that are found to be joined, by the reason
  abbrev pub Answered : Reason → Type 0
  Answered reason.Same = s ≡ t
  Answered (reason.Instance k) = IsLeastInstance live s t k
  Answered reason.Orders = (vars : List ℕ) × AreVariables s t vars × (length vars ≤ 5) × IsTriedUnder m live s t (orders_of vars) (Joined reason.Orders)
  Answered (reason.Ac list) = IsAcAnswer live s t (Some list)

  tried_orders : (orders : List Classes) (answer : Joinable) (why : Reason) → IsTriedUnder m live s t orders answer → answer ≡ Joined why → reason.Orders ≡ why
  tried_orders _ _ why agree_under_all e = cc
  tried_orders _ answer why (agree_under {orders = orders} a b r) e = tried_orders orders answer why r e
  tried_orders _ _ why (differ_under a b n) e = absurd cc

  tested : (answer : Joinable) (why : Reason) → IsAnswer m live s t answer → answer ≡ Joined why → Answered why
  tested _ why (are_equal e) q = let same : reason.Same ≡ why = cc in subst Answered same e
  tested _ why (are_sides {number = k} n i) q = let same : reason.Instance k ≡ why = cc in subst Answered same i
  tested _ why (have_many n i v h) q = absurd cc
  tested answer why (are_tried {vars = vars} n i v h r) q =
      let orders = tried_orders (orders_of vars) answer why r q in
      subst Answered orders (vars, v, h, subst (IsTriedUnder m live s t (orders_of vars)) (q ∙ ap Joined (sym orders)) r)

  pub answered : (answer : Joinable) (why : Reason) → IsEndsAnswer m live s t answer → answer ≡ Joined why → Answered why
  answered _ why (equal_by_facts {list = list} a) q = let same : reason.Ac list ≡ why = cc in subst Answered same a
  answered answer why (not_equal_so n a) q = tested answer why a q

  -- the ends agree under each of the orders that were tried
  pub all_agree : (orders : List Classes) (answer : Joinable) → IsTriedUnder m live s t orders answer → answer ≡ Joined reason.Orders → Each (λ (cases : Classes). EndsAgree m live cases s t) orders
  all_agree _ _ agree_under_all e = tt
  all_agree _ answer (agree_under {orders = orders} {end = end} a b r) e = (record { end = end; left_comes = a; right_comes = b }, all_agree orders answer r e)
  all_agree _ _ (differ_under a b n) e = absurd cc

  -- the cases, one by one
  pub record Casing (orders rest : List Classes) (list : List Case) : Type 0 where
    pub done : (others : List Case) → AreMadeCases m live s t rest others → AreMadeCases m live s t orders (list ++ others)
    pub agree : Each (λ (cases : Classes). EndsAgree m live cases s t) rest
    pub members : Each (In orders) rest

  pub casing_begins : (vars : List ℕ) (rest : List Classes) (list : List Case) → Answered reason.Orders → AreVariables s t vars → rest ≡ orders_of vars → list ≡ [] → Casing (orders_of vars) rest list
  casing_begins vars rest list a v e w =
      let same : a.0 ≡ vars = one_variables s t a.0 vars a.1 v in
      let agree = subst (λ (vs : List ℕ). Each (λ (cases : Classes). EndsAgree m live cases s t) (orders_of vs)) same (all_agree (orders_of a.0) (Joined reason.Orders) a.3 refl) in
      record {
        done = λ others h. subst (λ (l : List Case). AreMadeCases m live s t (orders_of vars) (l ++ others)) (sym w) (subst (λ (os : List Classes). AreMadeCases m live s t os others) e h);
        agree = subst (Each (λ (cases : Classes). EndsAgree m live cases s t)) (sym e) agree;
        members = subst (Each (In (orders_of vars))) (sym e) (all_members (orders_of vars));
      }

  module _ (orders rest after : List Classes) (cases : Classes) (list : List Case) (c : Casing orders rest list) (at : rest ≡ cases ∷ after) where
    pub agrees_here : EndsAgree m live cases s t
    agrees_here = (subst (Each (λ (x : Classes). EndsAgree m live x s t)) at c.agree).0

    pub member_here : In orders cases
    member_here = (subst (Each (In orders)) at c.members).0

    pub casing_on : (case : Case) (next : List Case) → IsMadeCase m live s t cases case → next ≡ list ++ case ∷ [] → Casing orders after next
    casing_on case next h e = record {
      done = λ others k.
          subst (AreMadeCases m live s t orders) (sym (ap (λ l. l ++ others) e ∙ append_assoc list (case ∷ []) others))
          (c.done (case ∷ others) (subst (λ (os : List Classes). AreMadeCases m live s t os (case ∷ others)) (sym at) (h, k)));
      agree = (subst (Each (λ (x : Classes). EndsAgree m live x s t)) at c.agree).1;
      members = (subst (Each (In orders)) at c.members).1;
    }

  pub casing_ends : (orders rest : List Classes) (list : List Case) → Casing orders rest list → rest ≡ [] → AreMadeCases m live s t orders list
  casing_ends orders rest list c e = subst (AreMadeCases m live s t orders) (append-nil list) (c.done [] (subst (λ (os : List Classes). AreMadeCases m live s t os []) (sym e) tt))

-- what is made is right
module _ (m : Meaning) (laws : Laws m) (facts : List Equation) (over : AreOfSignature (HasSym m) m.arity facts) (s t : Tree) (s_over : IsTerm (HasSym m) m.arity s) (t_over : IsTerm (HasSym m) m.arity t) where
  represented_over : (cases : Classes) (u : Tree) → HasOnly cases u → IsTerm (HasSym m) m.arity u → IsOver (HasSym m) m.arity (Among cases) (represented cases u)
  represented_over cases u h o = instance_over (HasSym m) m.arity (Among cases) (λ x. var (representative cases x)) u o (λ x p. representative-among x cases (h x p))

  case_right : (case : Case) → IsMadeCase m (numbered facts) s t case.cases case → HasOnly case.cases s → HasOnly case.cases t → IsRightCase m facts s t case
  case_right case c hs ht =
      let l = moves_made m laws facts over (m.under case.cases) (Among case.cases) 4096 (represented case.cases s) c.left.term c.left.chain.steps c.left.stop case.left c.left_is.normalises c.left_moves (represented_over case.cases s hs s_over) in
      let r = moves_made m laws facts over (m.under case.cases) (Among case.cases) 4096 (represented case.cases t) c.right.term c.right.chain.steps c.right.stop case.right c.right_is.normalises c.right_moves (represented_over case.cases t ht t_over) in
      record { left_moves = l.0; right_moves = r.0; meet = l.1 ∙ c.meet ∙ sym r.1 }

  cases_right : (orders : List Classes) (cases : List Case) → AreMadeCases m (numbered facts) s t orders cases → ((c : Classes) → In orders c → HasOnly c s × HasOnly c t) → (map (λ (c : Case). c.cases) cases ≡ orders) × Each (IsRightCase m facts s t) cases
  cases_right orders cases made known = go orders cases made (each_known orders (all_members orders))
    where
      each_known : (os : List Classes) → Each (In orders) os → Each (λ (c : Classes). HasOnly c s × HasOnly c t) os
      each_known [] e = tt
      each_known (c ∷ os) e = (known c e.0, each_known os e.1)

      go : (os : List Classes) (cs : List Case) → AreMadeCases m (numbered facts) s t os cs → Each (λ (c : Classes). HasOnly c s × HasOnly c t) os → (map (λ (c : Case). c.cases) cs ≡ os) × Each (IsRightCase m facts s t) cs
      go [] [] h k = (refl, tt)
      go [] (c ∷ cs) h k = absurd h
      go (o ∷ os) [] h k = absurd h
      go (o ∷ os) (c ∷ cs) h k =
          let is : o ≡ c.cases = sym h.0.cases_are in
          let own : IsMadeCase m (numbered facts) s t c.cases c = subst (λ (x : Classes). IsMadeCase m (numbered facts) s t x c) is h.0 in
          let known_case = subst (λ (x : Classes). HasOnly x s × HasOnly x t) is k.0 in
          let rest = go os cs h.1 k.1 in
          (ap₂ (λ (x : Classes) (xs : List Classes). x ∷ xs) (sym is) rest.0, (case_right c own known_case.0 known_case.1, rest.1))

  pub end_right : (why : Reason) (end : End) → Answered m (numbered facts) s t why → SaysWhy m (numbered facts) s t why end → IsRightEnd m facts s t end
  end_right reason.Same Same a h = a
  end_right (reason.Instance k) (Instance number) a h = subst (IsInstance (numbered facts) s t) (sym h) a.is_one
  end_right reason.Orders (Orders cases) a h =
      let same : a.0 ≡ h.vars = one_variables s t a.0 h.vars a.1 h.vars_are in
      let r = cases_right (orders_of h.vars) cases h.made (λ c i. (known_left s t h.vars h.vars_are c i, known_right s t h.vars h.vars_are c i)) in
      record { vars = h.vars; vars_are = h.vars_are; few = subst (λ (vs : List ℕ). length vs ≤ 5) same a.2; orders_are = r.0; right = r.1 }
  end_right (reason.Ac list) (Ac triples) a h = triples_right facts s t list triples a h
  end_right reason.Same (Instance number) a h = absurd h
  end_right reason.Same (Orders cases) a h = absurd h
  end_right reason.Same (Ac triples) a h = absurd h
  end_right (reason.Instance k) Same a h = absurd h
  end_right (reason.Instance k) (Orders cases) a h = absurd h
  end_right (reason.Instance k) (Ac triples) a h = absurd h
  end_right reason.Orders Same a h = absurd h
  end_right reason.Orders (Instance number) a h = absurd h
  end_right reason.Orders (Ac triples) a h = absurd h
  end_right (reason.Ac list) Same a h = absurd h
  end_right (reason.Ac list) (Instance number) a h = absurd h
  end_right (reason.Ac list) (Orders cases) a h = absurd h
