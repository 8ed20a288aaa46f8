-- Verdicts for some of the variables, and for all.
use Rattle.std.proofs.Common.{◌≡◌, ◌↔◌, ℕ, ◌+◌, ◌-◌, ◌<◌, ◌≤◌, ◌==◌, ◌&&◌, List, [], ◌∷◌, refl, sym, ap, ◌∙◌, subst, arith, count_by, cond, ◌⊎◌, inl, inr, Bool, true, false, not, nat_lt, Option, IsTrue, if◌then◌else◌, length, take, drop, get_or, length-drop}
use Rattle.std.specs.Prelude.{Some}
use Rattle.std.proofs.lemmas.List.Sums.{sum_by-cons}
use Rattle.std.proofs.lemmas.Bool.Decides.{nat_tests}
use Rattle.uc_term.specs.declared.node.Node.{Node}
use Rattle.uc_term.specs.Tree.{Tree, var, app, Trees, none, more}
use Rattle.uc_term.specs.Variables.{variables}
use Rattle.uc_order.specs.declared.order.Cmp.{Cmp}
use Rattle.uc_order.specs.declared.order.Cmp.TheVariants.{Greater, Less, Equal}
use Rattle.uc_kbo.specs.Kbo.{Covers, Weighing, Kbo, by_variables, by_tower, by_weight, by_head, by_args, FirstGreater, first_here, first_same, is_it, None}
use Rattle.uc_kbo.specs.Runs.{IsVerdict, is_counted}
use Rattle.uc_kbo.specs.Balances.{has_counter, is_asked, AsksFor, is_below}
use Rattle.uc_term.proofs.Terms.{take_of_length-le}
use Rattle.uc_kbo.proofs.Parts.{none_step}
use Rattle.uc_kbo.proofs.Level.{Agree, Level, Decided, kbo_level, irreflexive}

pub agree_asked : (asked : ℕ → Bool) → Agree (is_asked asked) None
agree_asked asked = record { apart = λ x a. a; passes = λ x y a k q. absurd a }

-- a test that covers less
module _ (w : Weighing) (p z : ℕ → ℕ → Bool) (wider : (s t : Tree) → Covers p s t → Covers z s t) where
  mutual
    narrow : (s t : Tree) → Kbo w p None s t → Kbo w z None s t
    narrow (var x) (var y) (by_variables a) = absurd a
    narrow s t (by_tower u d) = by_tower u d
    narrow s t (by_weight c l) = by_weight (wider s t c) l
    narrow (app f ss) (app g ts) (by_head c e k) = by_head (wider (app f ss) (app g ts) c) e k
    narrow (app f ss) (app g ts) (by_args c e n d) = by_args (wider (app f ss) (app f ts) c) e n (narrow_first ss ts d)

    narrow_first : (ss ts : Trees) → FirstGreater w p None ss ts → FirstGreater w z None ss ts
    narrow_first none ts d = elim d [ ]
    narrow_first (more s ss) none d = elim d [ ]
    narrow_first (more s ss) (more t ts) (first_here l) = first_here (narrow s t l)
    narrow_first (more s ss) (more t ts) (first_same d) = first_same (narrow_first ss ts d)

-- a test that asks for what either of two tests asks for
module _ (w : Weighing) (p q r : ℕ → ℕ → Bool) (aq : Agree q None) (ar : Agree r None) (split : (s t : Tree) → Covers p s t ↔ (Covers q s t × Covers r s t)) where
  first_cases : {s t : Tree} {ss ts : Trees} → FirstGreater w r None (more s ss) (more t ts) → Kbo w r None s t ⊎ ((s ≡ t) × FirstGreater w r None ss ts)
  first_cases (first_here l) = inl l
  first_cases (first_same d) = inr (refl, d)

  decided : (s t : Tree) → Kbo w r None s t → Decided w r None ar s t (Level w r None ar s t)
  decided s t k = (kbo_level w r None ar s t).0 k

  joined : (s t : Tree) → Covers q s t → Kbo w r None s t → Covers p s t
  joined s t c k = (split s t).1 (c, (decided s t k).0)

  same_first : (t u : Tree) → t ≡ u → Kbo w q None t u → ⊥
  same_first t u e k = let P : Tree → Type 0 = λ x. Kbo w q None x u in irreflexive w q None aq u (subst P e k)

  mutual
    join : (s t : Tree) → Kbo w q None s t → Kbo w r None s t → Kbo w p None s t
    join (var x) (var y) (by_variables a) k = absurd a
    join s t (by_tower u d) k = by_tower u d
    join s t (by_weight c l) k = by_weight (joined s t c k) l
    join (app f ss) (app g ts) (by_head c e h) k = by_head (joined (app f ss) (app g ts) c k) e h
    join (app f ss) (app g ts) (by_args c e n d) k = elim (decided (app f ss) (app f ts) k).1 [
      | inl m ↦ absurd (omega (arith, e, m))
      | inr x ↦ elim x.1 [
        | inl o ↦ absurd (omega (arith, o, ap (w.rank f) n))
        | inr y ↦ by_args (joined (app f ss) (app f ts) c k) e n (join_first ss ts d y.2)
      ]
    ]

    join_first : (ss ts : Trees) → FirstGreater w q None ss ts → FirstGreater w r None ss ts → FirstGreater w p None ss ts
    join_first none ts d g = elim d [ ]
    join_first (more s ss) none d g = elim d [ ]
    join_first (more s ss) (more t ts) (first_here l) g = elim (first_cases g) [ inl m ↦ first_here (join s t l m) | inr y ↦ absurd (same_first s t y.0 l) ]
    join_first (more s ss) (more t ts) (first_same d) g = elim (first_cases g) [ inl m ↦ absurd (irreflexive w r None ar s m) | inr y ↦ first_same (join_first ss ts d y.1) ]

  together : (s t : Tree) → Kbo w p None s t ↔ (Kbo w q None s t × Kbo w r None s t)
  together s t = (λ k. (narrow w p q (λ a b c. ((split a b).0 c).0) s t k, narrow w p r (λ a b c. ((split a b).0 c).1) s t k), λ h. join s t h.0 h.1)

  agreed : (v u a : Cmp) (s t : Tree) → (a ≡ Greater) ↔ ((v ≡ Greater) × (u ≡ Greater)) → (a ≡ Less) ↔ ((v ≡ Less) × (u ≡ Less)) → (a ≡ Equal → v ≡ Equal) → IsVerdict w q None v s t → IsVerdict w r None u s t → IsVerdict w p None a s t
  agreed v u a s t g l e tv tu = record {
    greater = (λ x. let y = g.0 x in (together s t).1 (tv.greater.0 y.0, tu.greater.0 y.1), λ k. let y = (together s t).0 k in g.1 (tv.greater.1 y.0, tu.greater.1 y.1));
    less = (λ x. let y = l.0 x in (together t s).1 (tv.less.0 y.0, tu.less.0 y.1), λ k. let y = (together t s).0 k in l.1 (tv.less.1 y.0, tu.less.1 y.1));
    not_equal = λ x. tv.not_equal (e x);
  }

-- variables below a bound, and the others
cases_of : (b : Bool) → (b ≡ true) ⊎ (b ≡ false)
cases_of true = inl refl
cases_of false = inr refl

and_yes : (a : Bool) → (a && true) ≡ a
and_yes true = refl
and_yes false = refl

and_no : (a : Bool) → (a && false) ≡ false
and_no true = refl
and_no false = refl

lower : (ℕ → Bool) → ℕ → ℕ → Bool
lower asked b k = asked k && nat_lt k b

upper : (ℕ → Bool) → ℕ → ℕ → Bool
upper asked b k = asked k && not (nat_lt k b)

lower_yes : (asked : ℕ → Bool) (b k : ℕ) → nat_lt k b ≡ true → lower asked b k ≡ asked k
unfolding lower
lower_yes asked b k e = ap (λ c. asked k && c) e ∙ and_yes (asked k)

lower_no : (asked : ℕ → Bool) (b k : ℕ) → nat_lt k b ≡ false → lower asked b k ≡ false
unfolding lower
lower_no asked b k e = ap (λ c. asked k && c) e ∙ and_no (asked k)

upper_yes : (asked : ℕ → Bool) (b k : ℕ) → nat_lt k b ≡ false → upper asked b k ≡ asked k
unfolding upper
upper_yes asked b k e = ap (λ c. asked k && not c) e ∙ and_yes (asked k)

upper_no : (asked : ℕ → Bool) (b k : ℕ) → nat_lt k b ≡ true → upper asked b k ≡ false
unfolding upper
upper_no asked b k e = ap (λ c. asked k && not c) e ∙ and_no (asked k)

nothing_counted : (xs : List ℕ) → count_by (λ x. false) xs ≡ 0
nothing_counted [] = refl
nothing_counted (x ∷ xs) = omega (arith, nothing_counted xs, sum_by-cons (λ y. cond {A = ℕ} false 1 0) x xs)

asked_same : (a b : ℕ → Bool) (k : ℕ) (xs : List ℕ) → a k ≡ b k → count_by (is_asked a k) xs ≡ count_by (is_asked b k) xs
asked_same a b k xs e = ap (λ c. count_by (λ x. if c then x == k else false) xs) e

asked_none : (a : ℕ → Bool) (k : ℕ) (xs : List ℕ) → a k ≡ false → count_by (is_asked a k) xs ≡ 0
asked_none a k xs e = ap (λ c. count_by (λ x. if c then x == k else false) xs) e ∙ nothing_counted xs

module _ (asked : ℕ → Bool) (b : ℕ) (s t : Tree) where
  to_lower : Covers (is_asked asked) s t → Covers (is_asked (lower asked b)) s t
  to_lower c k = elim (cases_of (nat_lt k b)) [
    | inl e ↦ (let h = lower_yes asked b k e in omega (arith, c k, asked_same (lower asked b) asked k (variables s) h, asked_same (lower asked b) asked k (variables t) h))
    | inr e ↦ (let h = lower_no asked b k e in omega (arith, asked_none (lower asked b) k (variables t) h))
  ]

  to_upper : Covers (is_asked asked) s t → Covers (is_asked (upper asked b)) s t
  to_upper c k = elim (cases_of (nat_lt k b)) [
    | inl e ↦ (let h = upper_no asked b k e in omega (arith, asked_none (upper asked b) k (variables t) h))
    | inr e ↦ (let h = upper_yes asked b k e in omega (arith, c k, asked_same (upper asked b) asked k (variables s) h, asked_same (upper asked b) asked k (variables t) h))
  ]

  from_both : Covers (is_asked (lower asked b)) s t → Covers (is_asked (upper asked b)) s t → Covers (is_asked asked) s t
  from_both c d k = elim (cases_of (nat_lt k b)) [
    | inl e ↦ (let h = lower_yes asked b k e in omega (arith, c k, asked_same (lower asked b) asked k (variables s) h, asked_same (lower asked b) asked k (variables t) h))
    | inr e ↦ (let h = upper_yes asked b k e in omega (arith, d k, asked_same (upper asked b) asked k (variables s) h, asked_same (upper asked b) asked k (variables t) h))
  ]

split_at : (asked : ℕ → Bool) (b : ℕ) (s t : Tree) → Covers (is_asked asked) s t ↔ (Covers (is_asked (lower asked b)) s t × Covers (is_asked (upper asked b)) s t)
split_at asked b s t = (λ c. (to_lower asked b s t c, to_upper asked b s t c), λ d. from_both asked b s t d.0 d.1)

-- where no variable is between what has a counter and the next one
module _ (ns ms : List Node) (base : ℕ) (next : Option ℕ) (free : (k : ℕ) → base + 8192 ≤ k → IsTrue (is_below next k) → count_by (is_counted (is_it k)) ns + count_by (is_counted (is_it k)) ms ≡ 0) (from : (k : ℕ) → k < base + 8192 → IsTrue (is_below next k)) where
  below_next : (k : ℕ) → 0 < count_by (is_counted (is_it k)) ns + count_by (is_counted (is_it k)) ms → (k < base + 8192) ⊎ (base + 8192 ≤ k) → (b : Bool) → is_below next k ≡ b → b ≡ nat_lt k (base + 8192)
  below_next k h (inl l) true e = grind (arith, nat_tests)
  below_next k h (inl l) false e = absurd (let f = from k l in grind arith)
  below_next k h (inr g) true e = absurd (let z = free k g e in omega (arith, h, z))
  below_next k h (inr g) false e = grind (arith, nat_tests)

  counted : (k : ℕ) → 0 < count_by (is_counted (is_it k)) ns + count_by (is_counted (is_it k)) ms → is_below next k ≡ nat_lt k (base + 8192)
  counted k h = below_next k h (grind arith) (is_below next k) refl

  pub first_asks : (asked : ℕ → Bool) → base ≡ 0 → AsksFor (is_below next) asked ns ms → AsksFor (has_counter 0) asked ns ms
  first_asks asked z f k h = f k h ∙ counted k h ∙ (let e : nat_lt k (base + 8192) ≡ has_counter 0 k = grind (arith, nat_tests) in e)

  lower_asks : (asked : ℕ → Bool) → AsksFor (is_below next) asked ns ms → AsksFor (is_below (Some base)) (lower asked base) ns ms
  lower_asks asked f k h = elim (cases_of (nat_lt k base)) [
    | inl e ↦ (let q : nat_lt k (base + 8192) ≡ nat_lt k base = grind (arith, nat_tests) in lower_yes asked base k e ∙ f k h ∙ counted k h ∙ q)
    | inr e ↦ lower_no asked base k e ∙ sym e
  ]

  upper_asks : (asked : ℕ → Bool) → AsksFor (is_below next) asked ns ms → AsksFor (has_counter base) (upper asked base) ns ms
  upper_asks asked f k h = elim (cases_of (nat_lt k base)) [
    | inl e ↦ (let q : has_counter base k ≡ false = grind (arith, nat_tests) in upper_no asked base k e ∙ sym q)
    | inr e ↦ (let q : nat_lt k (base + 8192) ≡ has_counter base k = grind (arith, nat_tests) in upper_yes asked base k e ∙ f k h ∙ counted k h ∙ q)
  ]

  -- one climb more
  pub told_more : (w : Weighing) (v u a : Cmp) (s t : Tree) → ((asked : ℕ → Bool) → AsksFor (is_below (Some base)) asked ns ms → IsVerdict w (is_asked asked) None v s t) → ((asked : ℕ → Bool) → AsksFor (has_counter base) asked ns ms → IsVerdict w (is_asked asked) None u s t) → (a ≡ Greater) ↔ ((v ≡ Greater) × (u ≡ Greater)) → (a ≡ Less) ↔ ((v ≡ Less) × (u ≡ Less)) → (a ≡ Equal → v ≡ Equal) → (asked : ℕ → Bool) → AsksFor (is_below next) asked ns ms → IsVerdict w (is_asked asked) None a s t
  told_more w v u a s t tv tu g l e asked f =
      agreed w (is_asked asked) (is_asked (lower asked base)) (is_asked (upper asked base)) (agree_asked (lower asked base)) (agree_asked (upper asked base)) (split_at asked base) v u a s t g l e (tv (lower asked base) (lower_asks asked f)) (tu (upper asked base) (upper_asks asked f))

-- all variables are asked for
pub told_all : (w : Weighing) (v : Cmp) (s t : Tree) → IsVerdict w (is_asked (λ k. true)) None v s t → IsVerdict w is_it None v s t
told_all w v s t h = h

-- a list from a place on
pub from_place : (at : ℕ) (ns : List Node) → take (length ns - at) (drop at ns) ≡ drop at ns
from_place at ns = take_of_length-le (drop at ns) (length ns - at) (omega (arith, length-drop at ns))

pub free_at : (s t : List Node) (at from base : ℕ) (next : Option ℕ) → from ≡ base → ((k : ℕ) → from ≤ k → IsTrue (is_below next k) → count_by (is_counted (is_it k)) (take (length s - at) (drop at s)) + count_by (is_counted (is_it k)) (take (length t - at) (drop at t)) ≡ 0) → (k : ℕ) → base ≤ k → IsTrue (is_below next k) → count_by (is_counted (is_it k)) (drop at s) + count_by (is_counted (is_it k)) (drop at t) ≡ 0
free_at s t at from base next e h k g b = omega (arith, h k (omega (arith, e, g)) b, ap (count_by (is_counted (is_it k))) (from_place at s), ap (count_by (is_counted (is_it k))) (from_place at t))

pub below_at : (from base : ℕ) (next : Option ℕ) → from ≡ base → ((k : ℕ) → k < from → IsTrue (is_below next k)) → (k : ℕ) → k < base → IsTrue (is_below next k)
below_at from base next e h k l = h k (omega (arith, e, l))

-- the least variable of the nodes that are seen
pub record Least (ns : List Node) (from : ℕ) (least : Option ℕ) (i : ℕ) (r : Option ℕ) : Type 0 where
  pub here : (k : ℕ) → from ≤ k → IsTrue (is_below r k) → count_by (is_counted (is_it k)) (take i ns) ≡ 0
  pub less : (k : ℕ) → IsTrue (is_below r k) → IsTrue (is_below least k)
  pub above : ((k : ℕ) → k < from → IsTrue (is_below least k)) → (k : ℕ) → k < from → IsTrue (is_below r k)

pub least_init : (ns : List Node) (from : ℕ) (least : Option ℕ) → Least ns from least 0 least
least_init ns from least = record { here = λ k g h. refl; less = λ k h. h; above = λ f. f }

pub least_more : (ns : List Node) (from : ℕ) (least : Option ℕ) (i : ℕ) (r r' : Option ℕ) (d n : Node) → i < length ns → n ≡ get_or ns i d → ((k : ℕ) → from ≤ k → IsTrue (is_below r' k) → is_counted (is_it k) n ≡ false) → ((k : ℕ) → IsTrue (is_below r' k) → IsTrue (is_below r k)) → (((k : ℕ) → k < from → IsTrue (is_below r k)) → (k : ℕ) → k < from → IsTrue (is_below r' k)) → Least ns from least i r → Least ns from least (i + 1) r'
least_more ns from least i r r' d n m e here less above l = record {
  here = λ k g h. none_step (is_counted (is_it k)) ns i d m (ap (is_counted (is_it k)) (sym e) ∙ here k g h) (l.here k g (less k h));
  less = λ k h. l.less k (less k h);
  above = λ f. above (l.above f);
}

pub least_all : (ns : List Node) (from : ℕ) (least : Option ℕ) (i : ℕ) (r : Option ℕ) → length ns ≤ i → Least ns from least i r → (k : ℕ) → from ≤ k → IsTrue (is_below r k) → count_by (is_counted (is_it k)) ns ≡ 0
least_all ns from least i r m l k g h = ap (count_by (is_counted (is_it k))) (sym (take_of_length-le ns i m)) ∙ l.here k g h

-- how many numbers may come
abbrev pub rest : Option ℕ → ℕ
rest (Some b) = 4294967296 - b + 1
rest _ = 0
