-- Sides are renamed apart by their places among the names.
use Rattle.std.proofs.Common.{◌≡◌, ℕ, suc, ◌+◌, ◌-◌, ◌<◌, ◌==◌, ◌||◌, nat_lt, Bool, true, false, List, [], ◌∷◌, ◌++◌, length, get_or, if◌then◌else◌, refl, sym, ap, ap₂, ◌∙◌, arith, ◌⊎◌, inl, inr, append-nil}
use Rattle.std.proofs.lemmas.Bool.{eqb-true}
use Rattle.std.proofs.lemmas.Bool.Decides.{nat_tests}
use Rattle.uc_term.specs.Tree.{Tree, var, none, more, apply}
use Rattle.uc_term.specs.Variables.{Occurs, variables, is_among, firsts_after, place_of}
use Rattle.uc_term.proofs.Terms.{apply-apply, apply-var}
use Rattle.uc_term.proofs.Agree.{same_if}
use Rattle.uc_term.proofs.Firsts.{is_among-append}
use Rattle.uc_fact.specs.Live.{Rule}
use Rattle.uc_fact.proofs.Occurring.{among, either}
use Rattle.uc_pair.specs.declared.instances.RenamedApart.{RenamedApart}
use Rattle.uc_pair.specs.Numbering.{placed_by}
use Rattle.uc_pair.specs.Overlapping.{shifted, IsBelow}
use Rattle.uc_pair.specs.Reading.{renamed, AreApart}
use Rattle.uc_pair.proofs.Names.{place_here, place_later}
use Rattle.uc_pair.proofs.Renaming.{apply-renamed}

-- a bound of numbers
abbrev bound : List ℕ → ℕ
bound [] = 0
bound (x ∷ xs) = x + 1 + bound xs

below_bound : (xs : List ℕ) (x : ℕ) → is_among x xs ≡ true → x < bound xs
below_bound [] x e = absurd cc
below_bound (y ∷ ys) x e = go (below_bound ys x) (either (x == y) (is_among x ys) e)
  where
    go : (is_among x ys ≡ true → x < bound ys) → ((x == y) ≡ true) ⊎ (is_among x ys ≡ true) → x < bound (y ∷ ys)
    go h (inl t) = let same : x ≡ y = eqb-true x y t in omega arith
    go h (inr t) = omega (arith, h t)

test_or_not : (b : Bool) → (b ≡ true) ⊎ (b ≡ false)
test_or_not true = inl refl
test_or_not false = inr refl

-- the name at the place of a name
place_within : (xs : List ℕ) (x : ℕ) → is_among x xs ≡ true → (place_of xs x < length xs) × (get_or xs (place_of xs x) 0 ≡ x)
place_within [] x e = absurd cc
place_within (y ∷ ys) x e = go (place_within ys x) (test_or_not (x == y))
  where
    go : (is_among x ys ≡ true → (place_of ys x < length ys) × (get_or ys (place_of ys x) 0 ≡ x)) → ((x == y) ≡ true) ⊎ ((x == y) ≡ false) → (place_of (y ∷ ys) x < length (y ∷ ys)) × (get_or (y ∷ ys) (place_of (y ∷ ys) x) 0 ≡ x)
    go h (inl t) = let p = place_here y ys x t in (omega (arith, p), ap (λ n. get_or (y ∷ ys) n 0) p ∙ sym (eqb-true x y t))
    go h (inr n) =
        let later : is_among x ys ≡ true = (rw n at e) in
        let p = place_later y ys x n in
        let r = h later in
        let q : place_of (y ∷ ys) x ≡ suc (place_of ys x) = omega (arith, p) in
        (omega (arith, p, r.0), ap (λ k. get_or (y ∷ ys) k 0) q ∙ r.1)

-- a number that occurs is among the first occurrences
among_firsts : (seen ys : List ℕ) (x : ℕ) → is_among x seen ≡ false → is_among x ys ≡ true → is_among x (firsts_after seen ys) ≡ true
among_firsts seen [] x n e = absurd cc
among_firsts seen (y ∷ ys) x n e = go (x == y) refl e (is_among y seen) refl (λ more m h. among_firsts more ys x m h)
  where
    go : (b : Bool) → (x == y) ≡ b → (b || is_among x ys) ≡ true → (c : Bool) → is_among y seen ≡ c → ((more : List ℕ) → is_among x more ≡ false → is_among x ys ≡ true → is_among x (firsts_after more ys) ≡ true) → is_among x (if c then firsts_after seen ys else y ∷ firsts_after (y ∷ seen) ys) ≡ true
    go true same e true old later =
        let number : x ≡ y = eqb-true x y same in
        let both : true ≡ false = sym old ∙ ap (λ z. is_among z seen) (sym number) ∙ n in
        absurd cc
    go true same e false new later = ap (λ b. b || is_among x (firsts_after (y ∷ seen) ys)) same
    go false other e true old later = later seen n e
    go false other e false new later = ap (λ b. b || is_among x (firsts_after (y ∷ seen) ys)) other ∙ later (y ∷ seen) (ap (λ b. b || is_among x seen) other ∙ n) e

among_left : (xs ys : List ℕ) (x : ℕ) → is_among x xs ≡ true → is_among x (xs ++ ys) ≡ true
among_left xs ys x e = is_among-append x xs ys ∙ ap (λ b. b || is_among x ys) e

among_right : (xs ys : List ℕ) (x : ℕ) → is_among x xs ≡ false → is_among x ys ≡ true → is_among x (xs ++ ys) ≡ true
among_right xs ys x n e = is_among-append x xs ys ∙ ap (λ b. b || is_among x ys) n ∙ e

-- the variables of a term are among the names behind which they were put
is_named : (old new : List ℕ) (t : Tree) → new ≡ old ++ firsts_after old (variables t) → (x : ℕ) → Occurs x t → is_among x new ≡ true
is_named old new t e x o = ap (is_among x) e ∙ go (test_or_not (is_among x old))
  where
    go : (is_among x old ≡ true) ⊎ (is_among x old ≡ false) → is_among x (old ++ firsts_after old (variables t)) ≡ true
    go (inl s) = among_left old (firsts_after old (variables t)) x s
    go (inr n) = among_right old (firsts_after old (variables t)) x n (among_firsts old (variables t) x n (among x t o))

still_named : (old new : List ℕ) (t : Tree) → new ≡ old ++ firsts_after old (variables t) → (x : ℕ) → is_among x old ≡ true → is_among x new ≡ true
still_named old new t e x s = ap (is_among x) e ∙ among_left old (firsts_after old (variables t)) x s

-- the names of the outer rule and those of the inner one
module _ (names inner_names : List ℕ) where
  abbrev k : ℕ
  k = bound names

  abbrev m : ℕ
  m = length names

  there : ℕ → ℕ
  there x = if nat_lt x (bound names) then place_of names x else place_of inner_names (x - bound names) + length names

  back : ℕ → ℕ
  back y = if nat_lt y (length names) then get_or names y 0 else get_or inner_names (y - length names) 0 + bound names

  there_low : (x : ℕ) → x < k → there x ≡ place_of names x
  unfolding there
  there_low x h = let e : nat_lt x (bound names) ≡ true = grind (arith, nat_tests) in rw e refl

  there_high : (x : ℕ) → there (x + k) ≡ place_of inner_names x + m
  unfolding there
  there_high x = let e : nat_lt (x + bound names) (bound names) ≡ false = grind (arith, nat_tests) in let q : x + bound names - bound names ≡ x = omega arith in rw e (ap (λ n. place_of inner_names n + length names) q)

  back_low : (y : ℕ) → y < m → back y ≡ get_or names y 0
  unfolding back
  back_low y h = let e : nat_lt y (length names) ≡ true = grind (arith, nat_tests) in rw e refl

  back_high : (y : ℕ) → back (y + m) ≡ get_or inner_names y 0 + k
  unfolding back
  back_high y = let e : nat_lt (y + length names) (length names) ≡ false = grind (arith, nat_tests) in let q : y + length names - length names ≡ y = omega arith in rw e (ap (λ n. get_or inner_names n 0 + bound names) q)

  outer_there : (x : ℕ) → is_among x names ≡ true → there x ≡ place_of names x
  outer_there x e = there_low x (below_bound names x e)

  outer_back : (x : ℕ) → is_among x names ≡ true → back (there x) ≡ x
  outer_back x e =
      let p = place_within names x e in
      ap back (outer_there x e) ∙ back_low (place_of names x) p.0 ∙ p.1

  inner_back : (x : ℕ) → is_among x inner_names ≡ true → back (there (x + k)) ≡ x + k
  inner_back x e =
      let p = place_within inner_names x e in
      ap back (there_high x) ∙ back_high (place_of inner_names x) ∙ ap (λ n. n + k) p.1

  outer_term : (t t' : Tree) → ((x : ℕ) → Occurs x t → is_among x names ≡ true) → t' ≡ placed_by names 0 t → (t' ≡ renamed there t) × (t ≡ renamed back t')
  outer_term t t' h e =
      let forth : t' ≡ renamed there t = e ∙ same_if (λ x. var (place_of names x + 0)) (λ x. var (there x)) t (λ x o. ap var ((omega arith) ∙ sym (outer_there x (h x o)))) in
      (forth, sym (ap (renamed back) forth ∙ apply-renamed (λ y. var (back y)) there t ∙ same_if (λ x. var (back (there x))) var t (λ x o. ap var (outer_back x (h x o))) ∙ apply-var t))

  inner_term : (t t' : Tree) → ((x : ℕ) → Occurs x t → is_among x inner_names ≡ true) → t' ≡ placed_by inner_names m t → (t' ≡ renamed there (shifted k t)) × (shifted k t ≡ renamed back t')
  inner_term t t' h e =
      let moved : renamed there (shifted k t) ≡ apply (λ x. var (there (x + k))) t = apply-renamed (λ y. var (there y)) (λ x. x + k) t in
      let forth : t' ≡ renamed there (shifted k t) = e ∙ same_if (λ x. var (place_of inner_names x + m)) (λ x. var (there (x + k))) t (λ x o. ap var (sym (there_high x))) ∙ sym moved in
      (forth, sym (ap (renamed back) (forth ∙ moved) ∙ apply-apply (λ y. var (back y)) (λ x. var (there (x + k))) t ∙ same_if (λ x. var (back (there (x + k)))) (λ x. var (x + k)) t (λ x o. ap var (inner_back x (h x o)))))

pub are_apart : (outer inner : Rule) (empty also_empty first names first_inner inner_names : List ℕ) (offset : ℕ) (terms : RenamedApart) → first ≡ empty ++ firsts_after empty (variables outer.from) → names ≡ first ++ firsts_after first (variables outer.to) → first_inner ≡ also_empty ++ firsts_after also_empty (variables inner.from) → inner_names ≡ first_inner ++ firsts_after first_inner (variables inner.to) → offset ≡ length names → ((rest : List ℕ) → terms.outer_from ≡ placed_by (first ++ rest) 0 outer.from) → ((rest : List ℕ) → terms.outer_to ≡ placed_by (names ++ rest) 0 outer.to) → ((rest : List ℕ) → terms.inner_from ≡ placed_by (first_inner ++ rest) offset inner.from) → ((rest : List ℕ) → terms.inner_to ≡ placed_by (inner_names ++ rest) offset inner.to) → AreApart outer inner terms
are_apart outer inner empty also_empty first names first_inner inner_names offset terms f n fi ni off a b c d =
    let from_named : (x : ℕ) → Occurs x outer.from → is_among x names ≡ true = λ x o. still_named first names outer.to n x (is_named empty first outer.from f x o) in
    let to_named : (x : ℕ) → Occurs x outer.to → is_among x names ≡ true = λ x o. is_named first names outer.to n x o in
    let inner_from_named : (x : ℕ) → Occurs x inner.from → is_among x inner_names ≡ true = λ x o. still_named first_inner inner_names inner.to ni x (is_named also_empty first_inner inner.from fi x o) in
    let inner_to_named : (x : ℕ) → Occurs x inner.to → is_among x inner_names ≡ true = λ x o. is_named first_inner inner_names inner.to ni x o in
    let one = outer_term names inner_names outer.from terms.outer_from from_named (a (firsts_after first (variables outer.to)) ∙ ap (λ l. placed_by l 0 outer.from) (sym n)) in
    let two = outer_term names inner_names outer.to terms.outer_to to_named (b [] ∙ ap (λ l. placed_by l 0 outer.to) (append-nil names)) in
    let three = inner_term names inner_names inner.from terms.inner_from inner_from_named (c (firsts_after first_inner (variables inner.to)) ∙ ap₂ (λ l o. placed_by l o inner.from) (sym ni) off) in
    let four = inner_term names inner_names inner.to terms.inner_to inner_to_named (d [] ∙ ap₂ (λ l o. placed_by l o inner.to) (append-nil inner_names) off) in
    record {
      k = bound names;
      apart = λ x o. below_bound names x (⊎_elim (from_named x) (to_named x) o);
      there = there names inner_names;
      back = back names inner_names;
      renamed_are = ap₂ more one.0 (ap₂ more two.0 (ap₂ more three.0 (ap (λ t. more t none) four.0)));
      sides_are = ap₂ more one.1 (ap₂ more two.1 (ap₂ more three.1 (ap (λ t. more t none) four.1)));
    }
  where
    ⊎_elim : {A B C : Type 0} → (A → C) → (B → C) → A ⊎ B → C
    ⊎_elim f g (inl a) = f a
    ⊎_elim f g (inr b) = g b

-- some number is above each variable of a rule
pub some_bound : (rule : Rule) → (k : ℕ) × IsBelow k rule
some_bound rule = (bound (variables rule.from ++ variables rule.to), λ x o. go x o)
  where
    go : (x : ℕ) → Occurs x rule.from ⊎ Occurs x rule.to → x < bound (variables rule.from ++ variables rule.to)
    go x (inl o) = below_bound (variables rule.from ++ variables rule.to) x (among_left (variables rule.from) (variables rule.to) x (among x rule.from o))
    go x (inr o) = below_bound (variables rule.from ++ variables rule.to) x (is_among-append x (variables rule.from) (variables rule.to) ∙ ap (λ b. is_among x (variables rule.from) || b) (among x rule.to o) ∙ or_true (is_among x (variables rule.from)))
      where
        or_true : (b : Bool) → (b || true) ≡ true
        or_true true = refl
        or_true false = refl

-- a number that is above each variable of a term
pub above_all : (t : Tree) → (k : ℕ) × ((x : ℕ) → Occurs x t → x < k)
above_all t = (bound (variables t), λ x o. below_bound (variables t) x (among x t o))
