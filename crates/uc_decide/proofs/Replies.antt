-- What normalising both sides of a question comes to.
use Rattle.std.proofs.Common.{◌≡◌, ℕ, ◌+◌, ◌-◌, ◌≤◌, List, [], ◌∷◌, length, refl, sym, ap, ap₂, ◌∙◌, subst, arith}
use Rattle.uc_term.specs.declared.equation.Equation.{Equation}
use Rattle.uc_term.specs.Tree.{Tree}
use Rattle.uc_order.specs.Laws.{Meaning, Laws, HasSym, IsGroundOf}
use Rattle.uc_fact.specs.declared.chain.Step.{Step}
use Rattle.uc_fact.specs.declared.fact.Stop.{Stop}
use Rattle.uc_fact.specs.declared.fact.Stop.TheVariants.{Full, Steps, Size}
use Rattle.uc_fact.specs.Live.{Live, numbered, numbered_from, equations_of}
use Rattle.uc_fact.specs.Ground.{AreOfSignature}
use Rattle.uc_rewrite.specs.declared.normal.Normal.{Normal}
use Rattle.uc_rewrite.specs.Normalising.{Normalises, is_full, is_spent, is_large, goes_on}
use Rattle.uc_rewrite.proofs.Chaining.{steps_linked, full_irreducible}
use Rattle.uc_rewrite.proofs.Unique.{one_normal}
use Rattle.uc_decide.specs.declared.reply.Reply.{Reply}
use Rattle.uc_decide.specs.declared.reply.Reply.TheVariants.{Equal, Different, Spent, Grown}
use Rattle.uc_decide.specs.NormalForms.{HasNormalForm}
use Rattle.uc_decide.specs.Asking.{Normalised, IsReply, left_spent, left_grown, right_spent, right_grown, have_one_end, have_two_ends, HasNormalForms, IsByEnds}
use Rattle.uc_decide.proofs.Ordered.{normal_form}

-- numbering equations keeps them
equations_numbered_from : (n : ℕ) (es : List Equation) → equations_of (numbered_from n es) ≡ es
equations_numbered_from n [] = refl
equations_numbered_from n (e ∷ es) = ap (λ l. e ∷ l) (equations_numbered_from (n + 1) es)

equations_numbered : (es : List Equation) → equations_of (numbered es) ≡ es
equations_numbered es = equations_numbered_from 0 es

module _ (m : Meaning) (live : List Live) where
  -- no more steps are made than may be
  made_at_most : (limit : ℕ) (t : Tree) (steps : List Step) (end : Tree) (stop : Stop) → Normalises m.greater m.least live limit t steps end stop → length steps ≤ limit
  made_at_most limit t _ _ _ (is_full n) = omega arith
  made_at_most _ t _ _ _ (is_spent f) = omega arith
  made_at_most _ t _ _ _ (is_large f h) = omega arith
  made_at_most _ t _ _ _ (goes_on {limit = k} {v = v} {end = end} {steps = steps} {stop = stop} f h n) = omega (arith, made_at_most k v steps end stop n)

  pub made_within : (limit count : ℕ) (t : Tree) (n : Normal) → count ≡ length n.chain.steps → Normalised m live limit t n → count ≤ limit
  made_within limit count t n e i = omega (arith, made_at_most limit t n.chain.steps n.term n.stop i.normalises)

  -- the right side with the steps that are left
  pub with_rest : (steps count : ℕ) (t : Tree) (x y : Normal) → count ≡ length x.chain.steps → Normalised m live (steps - count) t y → Normalised m live (steps - length x.chain.steps) t y
  with_rest steps count t x y c i = subst (λ (k : ℕ). Normalised m live (steps - k) t y) c i

  -- the reply by the ends of both sides
  pub by_ends : (steps : ℕ) (s t : Tree) (x y : Normal) (reply : Reply) → Normalised m live steps s x → x.stop ≡ Full → Normalised m live (steps - length x.chain.steps) t y → y.stop ≡ Full → IsByEnds x.term y.term reply → IsReply m live steps s t reply
  by_ends steps s t x y (Equal n) a h b k e = subst (λ (z : Tree). IsReply m live steps s t (Equal z)) (sym e.0) (have_one_end a h b k e.1)
  by_ends steps s t x y (Different l r) a h b k e =
      subst (λ (z : Tree). IsReply m live steps s t (Different z r)) (sym e.0) (subst (λ (z : Tree). IsReply m live steps s t (Different x.term z)) (sym e.1) (have_two_ends a h b k e.2))
  by_ends steps s t x y (Spent n) a h b k e = absurd e
  by_ends steps s t x y Grown a h b k e = absurd e

  abbrev es : List Equation
  es = equations_of live

  module _ (laws : Laws m) (over : AreOfSignature (HasSym m) m.arity es) where
    -- an end from which no step leads on is the normal form of a ground term
    normal_end : (limit : ℕ) (t : Tree) (n : Normal) → Normalised m live limit t n → n.stop ≡ Full → IsGroundOf m t → HasNormalForm m es t n.term
    normal_end limit t n i h g = normal_form m laws es over t n.chain.steps n.term (steps_linked m.greater m.least live limit t n i) (full_irreducible m.greater m.least live limit t n i h) g

    pub normal_forms : (steps : ℕ) (s t : Tree) (reply : Reply) → IsReply m live steps s t reply → IsGroundOf m s → IsGroundOf m t → HasNormalForms m es s t reply
    normal_forms steps s t _ (left_spent a h) gs gt = tt
    normal_forms steps s t _ (left_grown a h) gs gt = tt
    normal_forms steps s t _ (right_spent a h b k) gs gt = tt
    normal_forms steps s t _ (right_grown a h b k) gs gt = tt
    normal_forms steps s t _ (have_one_end {left = x} {right = y} a h b k e) gs gt = (normal_end steps s x a h gs, subst (HasNormalForm m es t) (sym e) (normal_end (steps - length x.chain.steps) t y b k gt))
    normal_forms steps s t _ (have_two_ends {left = x} {right = y} a h b k n) gs gt = (normal_end steps s x a h gs, normal_end (steps - length x.chain.steps) t y b k gt, n)

  -- what a reply is by the stops of its sides
  abbrev ByRight : ℕ → Normal → Normal → Stop → Reply → Type 0
  ByRight steps x y Full reply = IsByEnds x.term y.term reply
  ByRight steps x y Steps reply = reply ≡ Spent steps
  ByRight steps x y Size reply = reply ≡ Grown

  record FromRight (steps : ℕ) (x : Normal) (t : Tree) (reply : Reply) : Type 0 where
    right : Normal
    right_is : Normalised m live (steps - length x.chain.steps) t right
    reply_is : ByRight steps x right right.stop reply

  abbrev ByLeft : ℕ → Normal → Tree → Stop → Reply → Type 0
  ByLeft steps x t Full reply = FromRight steps x t reply
  ByLeft steps x t Steps reply = reply ≡ Spent steps
  ByLeft steps x t Size reply = reply ≡ Grown

  record FromLeft (steps : ℕ) (s t : Tree) (reply : Reply) : Type 0 where
    left : Normal
    left_is : Normalised m live steps s left
    reply_is : ByLeft steps left t left.stop reply

  by_left : (steps : ℕ) (s t : Tree) (x : Normal) (stop : Stop) (reply : Reply) → Normalised m live steps s x → x.stop ≡ stop → ByLeft steps x t stop reply → FromLeft steps s t reply
  by_left steps s t x stop reply a h r = record { left = x; left_is = a; reply_is = subst (λ (z : Stop). ByLeft steps x t z reply) (sym h) r }

  by_right : (steps : ℕ) (s t : Tree) (x y : Normal) (stop : Stop) (reply : Reply) → Normalised m live steps s x → x.stop ≡ Full → Normalised m live (steps - length x.chain.steps) t y → y.stop ≡ stop → ByRight steps x y stop reply → FromLeft steps s t reply
  by_right steps s t x y stop reply a h b k r = by_left steps s t x Full reply a h (record { right = y; right_is = b; reply_is = subst (λ (z : Stop). ByRight steps x y z reply) (sym k) r })

  read : (steps : ℕ) (s t : Tree) (reply : Reply) → IsReply m live steps s t reply → FromLeft steps s t reply
  read steps s t _ (left_spent {left = x} a h) = by_left steps s t x Steps (Spent steps) a h refl
  read steps s t _ (left_grown {left = x} a h) = by_left steps s t x Size Grown a h refl
  read steps s t _ (right_spent {left = x} {right = y} a h b k) = by_right steps s t x y Steps (Spent steps) a h b k refl
  read steps s t _ (right_grown {left = x} {right = y} a h b k) = by_right steps s t x y Size Grown a h b k refl
  read steps s t _ (have_one_end {left = x} {right = y} a h b k e) = by_right steps s t x y Full (Equal x.term) a h b k (refl, e)
  read steps s t _ (have_two_ends {left = x} {right = y} a h b k n) = by_right steps s t x y Full (Different x.term y.term) a h b k (refl, refl, n)

  same_ends : (l r : Tree) (x y : Reply) → IsByEnds l r x → IsByEnds l r y → x ≡ y
  same_ends l r (Equal n) (Equal k) a b = ap Equal (a.0 ∙ sym b.0)
  same_ends l r (Equal n) (Different k q) a b = absurd (b.2 a.1)
  same_ends l r (Equal n) (Spent k) a b = absurd b
  same_ends l r (Equal n) Grown a b = absurd b
  same_ends l r (Different n p) (Equal k) a b = absurd (a.2 b.1)
  same_ends l r (Different n p) (Different k q) a b = ap₂ Different (a.0 ∙ sym b.0) (a.1 ∙ sym b.1)
  same_ends l r (Different n p) (Spent k) a b = absurd b
  same_ends l r (Different n p) Grown a b = absurd b
  same_ends l r (Spent n) y a b = absurd a
  same_ends l r Grown y a b = absurd a

  same_by_right : (steps : ℕ) (n k : Normal) (stop : Stop) (x y : Reply) → ByRight steps n k stop x → ByRight steps n k stop y → x ≡ y
  same_by_right steps n k Full x y a b = same_ends n.term k.term x y a b
  same_by_right steps n k Steps x y a b = a ∙ sym b
  same_by_right steps n k Size x y a b = a ∙ sym b

  same_right : (steps : ℕ) (n : Normal) (t : Tree) (x y : Reply) → FromRight steps n t x → FromRight steps n t y → x ≡ y
  same_right steps n t x y a b =
      let e : b.right ≡ a.right = one_normal m.greater m.least live (steps - length n.chain.steps) t b.right a.right b.right_is a.right_is in
      same_by_right steps n a.right a.right.stop x y a.reply_is (subst (λ (z : Normal). ByRight steps n z z.stop y) e b.reply_is)

  same_by_left : (steps : ℕ) (n : Normal) (t : Tree) (stop : Stop) (x y : Reply) → ByLeft steps n t stop x → ByLeft steps n t stop y → x ≡ y
  same_by_left steps n t Full x y a b = same_right steps n t x y a b
  same_by_left steps n t Steps x y a b = a ∙ sym b
  same_by_left steps n t Size x y a b = a ∙ sym b

  pub one_reply : (steps : ℕ) (s t : Tree) (x y : Reply) → IsReply m live steps s t x → IsReply m live steps s t y → x ≡ y
  one_reply steps s t x y i j =
      let a = read steps s t x i in
      let b = read steps s t y j in
      let e : b.left ≡ a.left = one_normal m.greater m.least live steps s b.left a.left b.left_is a.left_is in
      same_by_left steps a.left t a.left.stop x y a.reply_is (subst (λ (z : Normal). ByLeft steps z t z.stop y) e b.reply_is)

-- the normal forms of a question about the facts of a list
pub normal_forms_by : (m : Meaning) → Laws m → (fs es : List Equation) → fs ≡ es → (steps : ℕ) (s t : Tree) (reply : Reply) → IsReply m (numbered fs) steps s t reply → IsGroundOf m s → IsGroundOf m t → AreOfSignature (HasSym m) m.arity es → HasNormalForms m es s t reply
normal_forms_by m laws fs es e steps s t reply r gs gt over =
    let q = equations_numbered es in
    subst (λ (z : List Equation). HasNormalForms m z s t reply) q
    (normal_forms m (numbered es) laws (subst (AreOfSignature (HasSym m) m.arity) (sym q) over) steps s t reply (subst (λ (z : List Equation). IsReply m (numbered z) steps s t reply) e r) gs gt)
