-- The cases of the test, from what its parts answer.
use Rattle.std.proofs.Common.{◌≡◌, ◌<◌, ◌≤◌, ℕ, Bool, true, false, IsTrue, List, length, Option, Some, None, MatchOption, Result, IfOk, ◌∷◌, refl, sym, subst, arith}
use Rattle.std.proofs.lemmas.Result.{IfOk-weaker}
use Rattle.uc_term.specs.Tree.{Tree}
use Rattle.uc_order.specs.VarOrders.{Classes, orders_of}
use Rattle.uc_order.specs.Laws.{Meaning}
use Rattle.uc_fact.specs.Live.{Live}
use Rattle.uc_fact.specs.declared.joinable.Joinable.{Joinable}
use Rattle.uc_fact.specs.declared.joinable.Joinable.TheVariants.{Joined, Apart, TooManyVariables}
use Rattle.uc_fact.specs.declared.joinable.Reason.TheVariants.{Instance}
use Rattle.uc_ground.specs.Joining.{AreVariables, IsLeastInstance, IsNoInstance, IsTriedUnder, agree_under, differ_under, IsAnswer, are_sides, have_many, are_tried}
use Rattle.uc_ground.specs.Ends.{EndsAgree, EndsDiffer}

refused : (b : Bool) → b ≡ false → IsTrue b → ⊥
refused true e h = cc
refused false e h = cc

pub differ : (b : Bool) (s t : Tree) → b ≡ false → (s ≡ t → IsTrue b) → s ≡ t → ⊥
differ b s t f h e = refused b f (h e)

module _ (m : Meaning) (live : List Live) (s t : Tree) where
  no_instance : (o : Option ℕ) → ((k : ℕ) → o ≡ Some k → ⊥) → MatchOption o (IsNoInstance live s t) (IsLeastInstance live s t) → IsNoInstance live s t
  no_instance None n h = h
  no_instance (Some k) n h = absurd (n k refl)

  pub sides_answer : (s ≡ t → ⊥) → (o : Option ℕ) (k : ℕ) → o ≡ Some k → MatchOption o (IsNoInstance live s t) (IsLeastInstance live s t) → IsAnswer m live s t (Joined (Instance k))
  sides_answer n None k e h = absurd cc
  sides_answer n (Some j) k e h = are_sides n (subst (IsLeastInstance live s t) (let same : j ≡ k = cc in same) h)

  pub many_answer : (s ≡ t → ⊥) → (o : Option ℕ) → ((k : ℕ) → o ≡ Some k → ⊥) → MatchOption o (IsNoInstance live s t) (IsLeastInstance live s t) → (vars : List ℕ) → AreVariables s t vars → (n : ℕ) → n ≡ length vars → 5 < n → IsAnswer m live s t (TooManyVariables n)
  many_answer d o x h vars v n e k = subst (λ z. IsAnswer m live s t (TooManyVariables z)) (sym e) (have_many d (no_instance o x h) v (omega arith))

  pub tried_answer : {E : Type 0} (r : Result Joinable E) → (s ≡ t → ⊥) → (o : Option ℕ) → ((k : ℕ) → o ≡ Some k → ⊥) → MatchOption o (IsNoInstance live s t) (IsLeastInstance live s t) → (vars ws : List ℕ) → AreVariables s t vars → ws ≡ vars → length vars ≤ 5 → IfOk r (IsTriedUnder m live s t (orders_of ws)) → IfOk r (IsAnswer m live s t)
  tried_answer r d o x h vars ws v e k i = IfOk-weaker r (IsTriedUnder m live s t (orders_of ws)) (IsAnswer m live s t) (λ answer f. are_tried d (no_instance o x h) v k (subst (λ z. IsTriedUnder m live s t (orders_of z) answer) e f)) i

  module _ (cases : Classes) (before after : List Classes) (e : before ≡ cases ∷ after) where
    -- the first of the orders has two ends
    pub first_differs : (o : Option (Tree × Tree)) (left right : Tree) → o ≡ Some (left, right) → MatchOption o (EndsAgree m live cases s t) (λ ends. EndsDiffer m live cases s t ends.0 ends.1) → IsTriedUnder m live s t before (Apart cases left right)
    first_differs None left right i h = absurd cc
    first_differs (Some ends) left right i h = subst (λ l. IsTriedUnder m live s t l (Apart cases left right)) (sym e) (go (subst (λ z. EndsDiffer m live cases s t z.0 z.1) (let same : ends ≡ (left, right) = cc in same) h))
      where
        go : EndsDiffer m live cases s t left right → IsTriedUnder m live s t (cases ∷ after) (Apart cases left right)
        go d = differ_under d.left_comes d.right_comes d.differ

    -- or one, and then the others decide
    pub first_agrees : (o : Option (Tree × Tree)) → ((ends : Tree × Tree) → o ≡ Some ends → ⊥) → MatchOption o (EndsAgree m live cases s t) (λ ends. EndsDiffer m live cases s t ends.0 ends.1) → (answer : Joinable) → IsTriedUnder m live s t after answer → IsTriedUnder m live s t before answer
    first_agrees None n h answer f = subst (λ l. IsTriedUnder m live s t l answer) (sym e) (agree_under h.left_comes h.right_comes f)
    first_agrees (Some ends) n h answer f = absurd (n ends refl)
