-- Into how many classes terms fall.
use Rattle.std.proofs.Common.{◌≡◌, ℕ, ◌+◌, ◌≤◌, ◌⊎◌, inl, inr, List, [], ◌∷◌, length, refl, sym, ◌∙◌, subst, arith}
use Rattle.uc_term.specs.declared.equation.Equation.{Equation}
use Rattle.uc_term.specs.Tree.{Tree}
use Rattle.uc_term.specs.Conversion.{Conv}
use Rattle.uc_term.proofs.Conversion.{Conv-trans, Conv-sym}
use Rattle.uc_order.specs.Members.{In, in_front, in_rest, AreDistinct}
use Rattle.uc_order.specs.Laws.{Meaning, IsGroundOf}
use Rattle.uc_decide.specs.NormalForms.{HasNormalForm}
use Rattle.uc_decide.specs.Deciding.{Decides}
use Rattle.uc_gen.specs.Counting.{AreUnrelated, HasClasses, HasForms}

-- A LIST WITHOUT ONE OF ITS MEMBERS

data Without (x : Tree) : List Tree → List Tree → Type 0 where
  front_out : {xs : List Tree} → Without x (x ∷ xs) xs
  later_out : {y : Tree} {xs ys : List Tree} → Without x xs ys → Without x (y ∷ xs) (y ∷ ys)

without : (xs : List Tree) (x : Tree) → In xs x → (ys : List Tree) × Without x xs ys
without [] x i = elim i [ ]
without (y ∷ xs) _ in_front = (xs, front_out)
without (y ∷ xs) x (in_rest i) = let r = without xs x i in (y ∷ r.0, later_out r.1)

one_less : {x : Tree} {xs ys : List Tree} → Without x xs ys → length xs ≡ length ys + 1
one_less (front_out {xs = xs}) = omega arith
one_less (later_out {xs = xs} {ys = ys} w) = omega (arith, one_less w)

-- every other member stays
stays : {x : Tree} {xs ys : List Tree} → Without x xs ys → (z : Tree) → In xs z → (z ≡ x) ⊎ In ys z
stays front_out _ in_front = inl refl
stays front_out z (in_rest i) = inr i
stays (later_out w) _ in_front = inr in_front
stays {x} (later_out {y = y} {ys = ys} w) z (in_rest i) = go (stays w z i)
  where
    go : (z ≡ x) ⊎ In ys z → (z ≡ x) ⊎ In (y ∷ ys) z
    go (inl e) = inl e
    go (inr j) = inr (in_rest j)

-- COUNTING

module _ (R : Tree → Tree → Type 0) (turned : (s t : Tree) → R s t → R t s) (on : (s t u : Tree) → R s t → R t u → R s u) where
  -- terms of which no two are related, each of them to one of others, are at most as many as these
  at_most : (ts us : List Tree) → AreUnrelated R ts → ((a : Tree) → In ts a → (b : Tree) × In us b × R a b) → length ts ≤ length us
  at_most [] us none related = omega arith
  at_most (a ∷ ts) us none related =
      let r = related a in_front in
      let w = without us r.0 r.1 in
      let later = at_most ts w.0 none.1 (λ x i. others r.0 w.0 r.2 w.1 x i (related x (in_rest i))) in
      omega (arith, one_less w.1, later)
    where
      others : (b : Tree) (rest : List Tree) → R a b → Without b us rest → (x : Tree) → In ts x → (c : Tree) × In us c × R x c → (c : Tree) × In rest c × R x c
      others b rest here w x i s = go (stays w s.0 s.1)
        where
          go : (s.0 ≡ b) ⊎ In rest s.0 → (c : Tree) × In rest c × R x c
          go (inl e) = absurd (none.0 x i (on a b x here (turned x b (subst (R x) e s.2))))
          go (inr j) = (s.0, j, s.2)

  pub one_number : (terms : List Tree) (m n : ℕ) → HasClasses R terms m → HasClasses R terms n → m ≡ n
  one_number terms m n x y =
      let up = at_most x.chosen y.chosen x.unrelated (λ a i. y.each a (x.among a i)) in
      let down = at_most y.chosen x.chosen y.unrelated (λ a i. x.each a (y.among a i)) in
      omega (arith, up, down, x.as_many, y.as_many)

pub one_count : (axioms : List Equation) (terms : List Tree) (m n : ℕ) → HasClasses (Conv axioms) terms m → HasClasses (Conv axioms) terms n → m ≡ n
one_count axioms = one_number (Conv axioms) (λ s t c. Conv-sym axioms c) (λ s t u c d. Conv-trans axioms c d)

-- NORMAL FORMS

abbrev Same : Tree → Tree → Type 0
Same s t = s ≡ t

all_apart : (ts : List Tree) → AreDistinct ts → AreUnrelated Same ts
all_apart [] d = tt
all_apart (t ∷ ts) d = ((λ u i e. d.0 (subst (In ts) (sym e) i)), all_apart ts d.1)

module _ (m : Meaning) (es : List Equation) (terms : List Tree) where
  fewer : (x y : ℕ) (h : HasForms m es terms x) (k : HasForms m es terms y) → x ≤ y
  fewer x y h k =
      let most = at_most Same (λ s t e. sym e) (λ s t u e f. e ∙ f) h.forms k.forms (all_apart h.forms h.distinct) (λ a i. (a, (k.are_theirs a).1 ((h.are_theirs a).0 i), refl)) in
      omega (arith, most, h.as_many, k.as_many)

  pub one_form_count : (x y : ℕ) → HasForms m es terms x → HasForms m es terms y → x ≡ y
  one_form_count x y h k = omega (arith, fewer x y h k, fewer y x k h)

  -- a term for each of the forms
  abbrev Comes : Tree → Type 0
  Comes n = (t : Tree) × In terms t × HasNormalForm m es t n

  abbrev chosen_for : (ns : List Tree) → ((n : Tree) → In ns n → Comes n) → List Tree
  chosen_for [] k = []
  chosen_for (n ∷ ns) k = (k n in_front).0 ∷ chosen_for ns (λ u i. k u (in_rest i))

  as_many : (ns : List Tree) (k : (n : Tree) → In ns n → Comes n) → length (chosen_for ns k) ≡ length ns
  as_many [] k = refl
  as_many (n ∷ ns) k = omega (arith, as_many ns (λ u i. k u (in_rest i)))

  -- each of them is one of the terms, and has one of the forms
  from : (ns : List Tree) (k : (n : Tree) → In ns n → Comes n) (t : Tree) → In (chosen_for ns k) t → In terms t × ((n : Tree) × In ns n × HasNormalForm m es t n)
  from [] k t i = elim i [ ]
  from (n ∷ ns) k _ in_front = let r = k n in_front in (r.1, (n, in_front, r.2))
  from (n ∷ ns) k t (in_rest i) = let r = from ns (λ u j. k u (in_rest j)) t i in (r.0, (r.1.0, in_rest r.1.1, r.1.2))

  to : (ns : List Tree) (k : (n : Tree) → In ns n → Comes n) (n : Tree) → In ns n → (t : Tree) × In (chosen_for ns k) t × In terms t × HasNormalForm m es t n
  to [] k n i = elim i [ ]
  to (n ∷ ns) k _ in_front = let r = k n in_front in (r.0, in_front, r.1, r.2)
  to (p ∷ ns) k n (in_rest i) = let r = to ns (λ u j. k u (in_rest j)) n i in (r.0, in_rest r.1, r.2, r.3)

  module _ (axioms : List Equation) (d : Decides m es axioms) (ground : (t : Tree) → In terms t → IsGroundOf m t) where
    unrelated : (ns : List Tree) (k : (n : Tree) → In ns n → Comes n) → AreDistinct ns → AreUnrelated (Conv axioms) (chosen_for ns k)
    unrelated [] k distinct = tt
    unrelated (n ∷ ns) k distinct = (apart, unrelated ns later distinct.1)
      where
        later : (u : Tree) → In ns u → Comes u
        later u i = k u (in_rest i)

        apart : (u : Tree) → In (chosen_for ns later) u → Conv axioms (k n in_front).0 u → ⊥
        apart u i c =
            let own = k n in_front in
            let other = from ns later u i in
            let same : n ≡ other.1.0 = (d.shared own.0 u n other.1.0 (ground own.0 own.1) (ground u other.0) own.2 other.1.2).1 c in
            distinct.0 (subst (In ns) (sym same) other.1.1)

    pub are_classes : (count : ℕ) → HasForms m es terms count → HasClasses (Conv axioms) terms count
    are_classes count h = record {
      chosen = chosen_for h.forms comes;
      as_many = as_many h.forms comes ∙ h.as_many;
      among = λ t i. (from h.forms comes t i).0;
      unrelated = unrelated h.forms comes h.distinct;
      each = each;
    }
      where
        comes : (n : Tree) → In h.forms n → Comes n
        comes n i = (h.are_theirs n).0 i

        each : (t : Tree) → In terms t → (c : Tree) × In (chosen_for h.forms comes) c × Conv axioms t c
        each t i =
            let own = d.one_normal_form t (ground t i) in
            let c = to h.forms comes own.normal ((h.are_theirs own.normal).1 (t, i, own.is_one)) in
            (c.0, c.1, (d.shared t c.0 own.normal own.normal (ground t i) (ground c.0 c.2) own.is_one c.3).0 refl)
