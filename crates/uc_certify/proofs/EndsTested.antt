-- The tests of the ends of joins.
use Rattle.std.proofs.Common.{◌≡◌, ℕ, zero, suc, ◌+◌, ◌<◌, ◌≤◌, inl, inr, Bool, true, ◌↔◌, IsTrue, is_some, List, [], ◌∷◌, ◌++◌, length, take, map, get_or, slice_get, Option, Some, None, MatchOption, refl, sym, ap, ap₂, ◌∙◌, subst, arith}
use Rattle.std.proofs.lemmas.List.{map_more}
use Rattle.uc_term.specs.declared.equation.Equation.{Equation}
use Rattle.uc_term.specs.declared.equation.Side.{Side}
use Rattle.uc_term.specs.declared.equation.Side.TheVariants.{Left, Right}
use Rattle.uc_term.specs.Tree.{Tree, apply}
use Rattle.uc_term.specs.Subst.{image}
use Rattle.uc_unify.specs.Matching.{IsMatchOfBoth, HasNoMatchOfBoth}
use Rattle.uc_order.specs.Members.{Each, In, in_front, in_rest}
use Rattle.uc_order.specs.VarOrders.{Classes, HasOnly, orders_of}
use Rattle.uc_order.specs.Laws.{Meaning}
use Rattle.uc_order.proofs.Exactly.{has_all}
use Rattle.uc_fact.specs.Live.{fact_at, numbered}
use Rattle.uc_ground.specs.Joining.{AreVariables, IsInstance, IsInstanceFrom}
use Rattle.uc_ground.proofs.Unique.{one_variables}
use Rattle.uc_certificate.specs.declared.certificate.Case.{Case}
use Rattle.uc_certify.specs.Joining.{IsRightCase, AreRightCases}
use Rattle.uc_certify.specs.Testing.{AreBoth, HaveOrders}
use Rattle.uc_certify.proofs.Numbered.{fact_there}
use Rattle.uc_certify.proofs.Lists.{taken_more, taken_all}

-- ONE INSTANCE

pub both_of : (l s r t : Tree) (o : Option (List (ℕ × Tree))) (b : Bool) → b ≡ is_some o → MatchOption o (HasNoMatchOfBoth l s r t) (IsMatchOfBoth l s r t) → IsTrue b ↔ AreBoth l s r t
both_of l s r t None b e n = (λ h. absurd (let q : b ≡ true = h in cc), λ a. absurd (n a.σ (sym a.left_is) (sym a.right_is)))
both_of l s r t (Some pairs) b e m = (λ h. record { σ = image pairs; left_is = sym m.left_gives; right_is = sym m.right_gives }, λ a. e)

equation_same : (e f : Equation) → Some e ≡ Some f → e ≡ f
equation_same e f h = cc

module _ (facts : List Equation) (s t : Tree) (k : ℕ) where
  pub no_instance : slice_get facts k ≡ None → IsInstance (numbered facts) s t k → ⊥
  no_instance n i = some_none i.from.equation (sym i.from.equation_is ∙ fact_there facts k ∙ n)
    where
      some_none : (e : Equation) → Some e ≡ None → ⊥
      some_none e h = absurd cc

  module _ (fact : Equation) (at : slice_get facts k ≡ Some fact) where
    pub left_instance : AreBoth fact.left s fact.right t → IsInstance (numbered facts) s t k
    left_instance b = record { side = Left; from = record { equation = fact; equation_is = fact_there facts k ∙ at; σ = b.σ; left_is = b.left_is; right_is = b.right_is } }

    pub right_instance : AreBoth fact.right s fact.left t → IsInstance (numbered facts) s t k
    right_instance b = record { side = Right; from = record { equation = fact; equation_is = fact_there facts k ∙ at; σ = b.σ; left_is = b.left_is; right_is = b.right_is } }

    pub by_right : (AreBoth fact.left s fact.right t → ⊥) → IsInstance (numbered facts) s t k → AreBoth fact.right s fact.left t
    by_right n i = go i.side i.from
      where
        same : (e : Equation) → fact_at (numbered facts) k ≡ Some e → e ≡ fact
        same e h = equation_same e fact (sym h ∙ fact_there facts k ∙ at)

        go : (side : Side) → IsInstanceFrom (numbered facts) s t k side → AreBoth fact.right s fact.left t
        go Left f = (let q = same f.equation f.equation_is in absurd (n (record { σ = f.σ; left_is = f.left_is ∙ ap (λ (e : Equation). apply f.σ e.left) q; right_is = f.right_is ∙ ap (λ (e : Equation). apply f.σ e.right) q })))
        go Right f = (let q = same f.equation f.equation_is in record { σ = f.σ; left_is = f.left_is ∙ ap (λ (e : Equation). apply f.σ e.right) q; right_is = f.right_is ∙ ap (λ (e : Equation). apply f.σ e.left) q })

-- EQUAL LISTS

module _ {A : Type 0} where
  pub equal_next : (xs ys : List A) (k : ℕ) (x y : A) → k < length xs → k < length ys → x ≡ get_or xs k x → y ≡ get_or ys k y → x ≡ y → take k xs ≡ take k ys → take (k + 1) xs ≡ take (k + 1) ys
  equal_next xs ys k x y h l e f q so = taken_more xs k x h e ∙ ap₂ (λ a b. a ++ b ∷ []) so q ∙ sym (taken_more ys k y l f)

  pub equal_end : (xs ys : List A) (k : ℕ) → length xs ≤ k → length ys ≤ k → take k xs ≡ take k ys → xs ≡ ys
  equal_end xs ys k h l so = sym (taken_all xs k h) ∙ so ∙ taken_all ys k l

  same_default : (xs : List A) (k : ℕ) (d e : A) → k < length xs → get_or xs k d ≡ get_or xs k e
  same_default [] k d e h = absurd (omega arith)
  same_default (x ∷ xs) zero d e h = refl
  same_default (x ∷ xs) (suc k) d e h = same_default xs k d e (omega arith)

  pub differ_at : (xs ys : List A) (k : ℕ) (x y : A) → k < length xs → x ≡ get_or xs k x → y ≡ get_or ys k y → (x ≡ y → ⊥) → xs ≡ ys → ⊥
  differ_at xs ys k x y h e f n q = n (e ∙ same_default xs k x y h ∙ ap (λ l. get_or l k y) q ∙ sym f)

module _ (cases : List Case) (orders : List Classes) where
  abbrev pub SameFirst : ℕ → Type 0
  SameFirst k = map (λ (c : Case). c.cases) (take k cases) ≡ take k orders

  pub orders_next : (k : ℕ) (c : Case) (o : Classes) → k < length cases → k < length orders → c ≡ get_or cases k c → o ≡ get_or orders k o → c.cases ≡ o → SameFirst k → SameFirst (k + 1)
  orders_next k c o h l e f q so =
      map_more (λ (x : Case). x.cases) cases k c h ∙ ap₂ (λ (a : List Classes) (x : Case). a ++ x.cases ∷ []) so (sym e) ∙ ap (λ (b : Classes). take k orders ++ b ∷ []) q ∙ sym (taken_more orders k o l f)

  pub orders_end : (k : ℕ) → length cases ≤ k → length orders ≤ k → SameFirst k → HaveOrders cases orders
  orders_end k h l so = ap (λ (x : List Case). map (λ (c : Case). c.cases) x) (sym (taken_all cases k h)) ∙ so ∙ taken_all orders k l

get_map : (cases : List Case) (k : ℕ) (d : Case) (e : Classes) → k < length cases → get_or (map (λ (c : Case). c.cases) cases) k e ≡ (get_or cases k d).cases
get_map [] k d e h = absurd (omega arith)
get_map (x ∷ xs) zero d e h = refl
get_map (x ∷ xs) (suc k) d e h = get_map xs k d e (omega arith)

length_map : (cases : List Case) → length (map (λ (c : Case). c.cases) cases) ≡ length cases
length_map [] = refl
length_map (x ∷ xs) = let r = length_map xs in omega (arith, r)

pub other_length : (cases : List Case) (orders : List Classes) → (length cases ≡ length orders → ⊥) → HaveOrders cases orders → ⊥
other_length cases orders n h = n (sym (length_map cases) ∙ ap length h)

pub other_order : (cases : List Case) (orders : List Classes) (k : ℕ) (c : Case) (o : Classes) → k < length cases → c ≡ get_or cases k c → o ≡ get_or orders k o → (c.cases ≡ o → ⊥) → HaveOrders cases orders → ⊥
other_order cases orders k c o h e f n q = n (ap (λ (x : Case). x.cases) e ∙ sym (get_map cases k c o h) ∙ ap (λ l. get_or l k o) q ∙ sym f)

-- THE CASES

get_in : (cases : List Case) (k : ℕ) (c : Case) → k < length cases → c ≡ get_or cases k c → In (map (λ (x : Case). x.cases) cases) c.cases
get_in [] k c h e = absurd (omega arith)
get_in (x ∷ xs) zero c h e = subst (λ (z : Case). In (x.cases ∷ map (λ (y : Case). y.cases) xs) z.cases) (sym e) in_front
get_in (x ∷ xs) (suc k) c h e = in_rest (get_in xs k c (omega arith) e)

module _ (s t : Tree) (vars : List ℕ) (are : AreVariables s t vars) (cases : List Case) (orders : HaveOrders cases (orders_of vars)) (k : ℕ) (c : Case) (h : k < length cases) (e : c ≡ get_or cases k c) where
  pub case_left : HasOnly c.cases s
  case_left x o = has_all vars x ((are.each x).1 (inl o)) c.cases (subst (λ (os : List Classes). In os c.cases) orders (get_in cases k c h e))

  pub case_right : HasOnly c.cases t
  case_right x o = has_all vars x ((are.each x).1 (inr o)) c.cases (subst (λ (os : List Classes). In os c.cases) orders (get_in cases k c h e))

module _ (m : Meaning) (facts : List Equation) (s t : Tree) (vars : List ℕ) (are : AreVariables s t vars) (cases : List Case) where
  pub right_cases : (n : ℕ) → n ≡ length vars → n ≤ 5 → HaveOrders cases (orders_of vars) → Each (IsRightCase m facts s t) cases → AreRightCases m facts s t cases
  right_cases n e h orders right = record { vars = vars; vars_are = are; few = omega (arith, e, h); orders_are = orders; right = right }

  pub too_many : (n : ℕ) → n ≡ length vars → 5 < n → AreRightCases m facts s t cases → ⊥
  too_many n e h r = let q = ap length (one_variables s t vars r.vars are r.vars_are) in let f = r.few in absurd (omega (arith, q, f, e, h))

  pub other_orders : (HaveOrders cases (orders_of vars) → ⊥) → AreRightCases m facts s t cases → ⊥
  other_orders n r = n (r.orders_are ∙ ap orders_of (one_variables s t r.vars vars r.vars_are are))
