-- From rules by their numbers to the list of what is found.
use Rattle.std.proofs.Common.{ℕ, zero, suc, ◌≡◌, ◌==◌, ◌+◌, ◌<◌, ◌≤◌, Bool, true, false, ◌||◌, if◌then◌else◌, List, [], ◌∷◌, ◌++◌, take, length, map, Option, Some, None, refl, sym, ap, ◌∙◌, subst, arith, ◌⊎◌, inl, inr}
use Rattle.std.specs.Prelude.{slice_get}
use Rattle.std.proofs.lemmas.Bool.{eqb-true, eq-eqb}
use Rattle.std.proofs.lemmas.Option.{slice_get_within}
use Rattle.uc_term.specs.Tree.{Tree, var, apply}
use Rattle.uc_term.specs.declared.equation.Equation.{Equation}
use Rattle.uc_term.specs.Subst.{found, image, domain}
use Rattle.std.proofs.Common.{unwrap_or, append-nil, ◌-◌}
use Rattle.uc_term.specs.Variables.{is_among, variables, firsts, firsts_after}
use Rattle.uc_term.proofs.Agree.{same_if}
use Rattle.uc_term.proofs.Terms.{take_of_length-le}
use Rattle.uc_unify.specs.Matching.{IsMatch, HasNoMatch}
use Rattle.uc_fact.specs.declared.index.Found.{Found}
use Rattle.uc_fact.specs.Live.{Rule, RiseFrom, AreRising, fact_at}
use Rattle.uc_fact.specs.Retrieval.{found_by, Generalises, is_instance, is_no_instance, no_rules, FirstThat, FindsNothing}
use Rattle.uc_fact.proofs.Occurring.{among}
use Rattle.uc_disc.specs.declared.search.Answer.{Answer}
use Rattle.uc_disc.specs.Numbered.{lives, IsSeated}
use Rattle.uc_disc.specs.Retrieving.{GivesNone, IsFirstFrom}
use Rattle.uc_disc.proofs.Retrieved.{none_gives, first_from_start, not_nothing}
use Rattle.uc_disc.proofs.Walks.{get-drop, get-there}

-- a match from a substitution
abbrev pairs_of : (ℕ → Tree) → List ℕ → List (ℕ × Tree)
pairs_of σ xs = map (λ x. (x, σ x)) xs

domain_pairs : (σ : ℕ → Tree) (xs : List ℕ) → domain (pairs_of σ xs) ≡ xs
domain_pairs σ [] = refl
domain_pairs σ (x ∷ xs) = ap (λ z. x ∷ z) (domain_pairs σ xs)

image_pairs : (σ : ℕ → Tree) (xs : List ℕ) (x : ℕ) → is_among x xs ≡ true → image (pairs_of σ xs) x ≡ σ x
image_pairs σ [] x e = absurd cc
image_pairs σ (y ∷ ys) x e = go (y == x) refl (x == y) refl e (image_pairs σ ys x)
  where
    go : (b : Bool) → (y == x) ≡ b → (c : Bool) → (x == y) ≡ c → (c || is_among x ys) ≡ true → (is_among x ys ≡ true → image (pairs_of σ ys) x ≡ σ x) → unwrap_or (if b then Some (σ y) else found (pairs_of σ ys) x) (var x) ≡ σ x
    go true p c q m later = ap σ (eqb-true y x p)
    go false p true q m later = absurd (let back : (y == x) ≡ true = eq-eqb y x (sym (eqb-true x y q)) in cc)
    go false p false q m later = later m

among_firsts : (seen xs : List ℕ) (y : ℕ) → is_among y xs ≡ true → is_among y seen ≡ false → is_among y (firsts_after seen xs) ≡ true
among_firsts seen [] y e n = absurd cc
among_firsts seen (x ∷ xs) y e n = go (is_among x seen) refl (y == x) refl e (λ k. among_firsts seen xs y k n) (among_firsts (x ∷ seen) xs y)
  where
    go : (b : Bool) → is_among x seen ≡ b → (c : Bool) → (y == x) ≡ c → (c || is_among y xs) ≡ true → (is_among y xs ≡ true → is_among y (firsts_after seen xs) ≡ true) → (is_among y xs ≡ true → is_among y (x ∷ seen) ≡ false → is_among y (firsts_after (x ∷ seen) xs) ≡ true) → is_among y (if b then firsts_after seen xs else x ∷ firsts_after (x ∷ seen) xs) ≡ true
    go true p true q m k l = absurd (let same : y ≡ x = eqb-true y x q in let both : true ≡ false = sym p ∙ ap (λ z. is_among z seen) (sym same) ∙ n in cc)
    go true p false q m k l = k m
    go false p true q m k l = ap (λ z. z || is_among y (firsts_after (x ∷ seen) xs)) q
    go false p false q m k l = ap (λ z. z || is_among y (firsts_after (x ∷ seen) xs)) q ∙ l m (ap (λ z. z || is_among y seen) q ∙ n)

pub match_of_any : (p t : Tree) (σ : ℕ → Tree) → apply σ p ≡ t → (pairs : List (ℕ × Tree)) × IsMatch p t pairs
match_of_any p t σ e =
    let xs = firsts (variables p) in (
      pairs_of σ xs,
      record {
        gives = same_if (image (pairs_of σ xs)) σ p (λ x o. image_pairs σ xs x (among_firsts [] (variables p) x (among x p o) refl)) ∙ e;
        pairs_are = domain_pairs σ xs;
      },
    )

-- the first one that is accepted
pub first_some : (A : Found → Type 0) (t : Tree) (rules : List Rule) (o : Option Answer) (answer : Answer) → o ≡ Some answer → IsFirstFrom A t rules 0 o → FirstThat A t rules (Some answer.found)
first_some A t rules None answer e f = absurd cc
first_some A t rules (Some a) answer e f = let same : a ≡ answer = cc in subst (λ (z : Answer). FirstThat A t rules (Some z.found)) same (first_from_start A t rules a f)

pub first_none : (A : Found → Type 0) (t : Tree) (rules : List Rule) (o : Option Answer) → o ≡ None → IsFirstFrom A t rules 0 o → FirstThat A t rules None
first_none A t rules None e f = none_gives A t rules f
first_none A t rules (Some a) e f = absurd cc

-- the list, rule by rule
abbrev All : Found → Type 0
All found = Unit {0}

gen_append : (t : Tree) (xs ys : List Rule) (ls ms : List Found) → Generalises t xs ls → Generalises t ys ms → Generalises t (xs ++ ys) (ls ++ ms)
gen_append t [] ys ls ms no_rules h = h
gen_append t (x ∷ xs) ys _ ms (is_instance {list = ls} m g) h = is_instance m (gen_append t xs ys ls ms g h)
gen_append t (x ∷ xs) ys ls ms (is_no_instance n g) h = is_no_instance n (gen_append t xs ys ls ms g h)

no_match : (t : Tree) (rules : List Rule) (k : ℕ) (rule : Rule) → slice_get rules k ≡ Some rule → GivesNone All t rules k → HasNoMatch rule.from t
no_match t rules k rule e none σ is = let m = match_of_any rule.from t σ is in none rule m.0 e m.1 tt

gen_skip : (t : Tree) (rules : List Rule) (i n j : ℕ) (list : List Found) → j ≡ i + n → j ≤ length rules → Generalises t (take i rules) list → ((k : ℕ) → i ≤ k → k < j → GivesNone All t rules k) → Generalises t (take j rules) list
gen_skip t rules i zero j list e h g none = subst (λ (z : ℕ). Generalises t (take z rules) list) (let z : i ≡ j = omega arith in z) g
gen_skip t rules i (suc n) j list e h g none =
    let r = get-there rules (i + n) (omega arith) in
    let before = gen_skip t rules i n (i + n) list refl (omega arith) g (λ k a b. none k a (omega arith)) in
    let here : Generalises t (r.0 ∷ []) [] = is_no_instance (no_match t rules (i + n) r.0 r.1 (none (i + n) (omega arith) (omega arith))) no_rules in
    let both : Generalises t (take (i + n) rules ++ r.0 ∷ []) (list ++ []) = gen_append t (take (i + n) rules) (r.0 ∷ []) list [] before here in
    let size : j ≡ i + n + 1 = omega arith in
    rw size (subst (λ z. Generalises t z list) (sym (get-drop rules (i + n) r.0 r.1).1) (subst (λ z. Generalises t (take (i + n) rules ++ r.0 ∷ []) z) (append-nil list) both))

pub gen_more : (t : Tree) (rules : List Rule) (from : ℕ) (o : Option Answer) (answer : Answer) (list new : List Found) → o ≡ Some answer → IsFirstFrom All t rules from o → Generalises t (take from rules) list → new ≡ list ++ answer.found ∷ [] → Generalises t (take (answer.rule + 1) rules) new
gen_more t rules from None answer list new e f g is = absurd cc
gen_more t rules from (Some a) answer list new e f g is =
    let same : a ≡ answer = cc in
    let within = slice_get_within rules a.rule f.1.rule f.1.is in
    let before : Generalises t (take a.rule rules) list = gen_skip t rules from (a.rule - from) a.rule list (omega (arith, f.0)) (omega arith) g f.2 in
    let here : Generalises t (f.1.rule ∷ []) (found_by f.1.rule f.1.pairs ∷ []) = is_instance f.1.is_match no_rules in
    let both = gen_append t (take a.rule rules) (f.1.rule ∷ []) list (found_by f.1.rule f.1.pairs ∷ []) before here in
    let front : Generalises t (take (a.rule + 1) rules) (list ++ a.found ∷ []) = subst (λ z. Generalises t z (list ++ a.found ∷ [])) (sym (get-drop rules a.rule f.1.rule f.1.is).1) (subst (λ (z : Found). Generalises t (take a.rule rules ++ f.1.rule ∷ []) (list ++ z ∷ [])) (sym f.1.found_is) both) in
    subst (λ z. Generalises t (take (answer.rule + 1) rules) z) (sym is) (subst (λ (z : Answer). Generalises t (take (z.rule + 1) rules) (list ++ z.found ∷ [])) same front)

pub answer_within : (t : Tree) (rules : List Rule) (from : ℕ) (o : Option Answer) (answer : Answer) → o ≡ Some answer → IsFirstFrom All t rules from o → (from ≤ answer.rule) × (answer.rule < length rules)
answer_within t rules from None answer e f = absurd cc
answer_within t rules from (Some a) answer e f = let same : a ≡ answer = cc in subst (λ (z : Answer). (from ≤ z.rule) × (z.rule < length rules)) same (f.0, slice_get_within rules a.rule f.1.rule f.1.is)

pub gen_all : (t : Tree) (rules : List Rule) (from : ℕ) (o : Option Answer) (list : List Found) → from ≤ length rules → ((a : Answer) → o ≡ Some a → ⊥) → IsFirstFrom All t rules from o → Generalises t (take from rules) list → Generalises t rules list
gen_all t rules from None list h e f g = subst (λ z. Generalises t z list) (take_of_length-le rules (length rules) (omega arith)) (gen_skip t rules from (length rules - from) (length rules) list (omega arith) (omega arith) g (λ k a b. f k a))
gen_all t rules from (Some a) list h e f g = absurd (e a refl)

pub gen_nothing : (t : Tree) (rules : List Rule) (from : ℕ) (o : Option Answer) (answer : Answer) → o ≡ Some answer → IsFirstFrom All t rules from o → FindsNothing t rules → ⊥
gen_nothing t rules from None answer e f n = absurd cc
gen_nothing t rules from (Some a) answer e f n = not_nothing t rules a.rule f.1.rule f.1.is (record { σ = image f.1.pairs; gives = f.1.is_match.gives }) n

-- facts by their numbers
rise_low : (n : ℕ) (fs : List (ℕ × Equation)) (j : ℕ) (g : ℕ × Equation) → RiseFrom n (lives fs) → slice_get fs j ≡ Some g → n ≤ g.0
rise_low n [] j g r e = absurd cc
rise_low n (f ∷ fs) zero g r e = let same : f ≡ g = cc in omega (arith, r.0, ap (λ (z : ℕ × Equation). z.0) same)
rise_low n (f ∷ fs) (suc j) g r e = omega (arith, r.0, rise_low (f.0 + 1) fs j g r.1 e)

pub rise_at : (n : ℕ) (fs : List (ℕ × Equation)) (i j : ℕ) (f g : ℕ × Equation) → RiseFrom n (lives fs) → i < j → slice_get fs i ≡ Some f → slice_get fs j ≡ Some g → f.0 < g.0
rise_at n [] i j f g r h e k = absurd cc
rise_at n (x ∷ fs) i zero f g r h e k = absurd (omega arith)
rise_at n (x ∷ fs) zero (suc j) f g r h e k = let same : x ≡ f = cc in omega (arith, rise_low (x.0 + 1) fs j g r.1 k, ap (λ (z : ℕ × Equation). z.0) same)
rise_at n (x ∷ fs) (suc i) (suc j) f g r h e k = rise_at (x.0 + 1) fs i j f g r.1 (omega arith) e k

pub fact_here : (fs : List (ℕ × Equation)) (k j : ℕ) (f : ℕ × Equation) → slice_get fs j ≡ Some f → f.0 ≡ k → ((i : ℕ) (g : ℕ × Equation) → i < j → slice_get fs i ≡ Some g → g.0 < k) → fact_at (lives fs) k ≡ Some f.1
fact_here [] k j f e is low = absurd cc
fact_here (x ∷ fs) k zero f e is low =
    let same : x ≡ f = cc in
    let number : x.0 ≡ k = ap (λ (z : ℕ × Equation). z.0) same ∙ is in
    ap (λ (b : Bool). if b then Some x.1 else fact_at (lives fs) k) (eq-eqb x.0 k number) ∙ ap (λ (z : ℕ × Equation). Some z.1) same
fact_here (x ∷ fs) k (suc j) f e is low = go (x.0 == k) refl (fact_here fs k j f e is (λ i g h s. low (suc i) g (omega arith) s))
  where
    go : (b : Bool) → (x.0 == k) ≡ b → fact_at (lives fs) k ≡ Some f.1 → (if b then Some x.1 else fact_at (lives fs) k) ≡ Some f.1
    go true q r = absurd (omega (arith, eqb-true x.0 k q, low 0 x (omega arith) refl))
    go false q r = r

pub fact_none : (fs : List (ℕ × Equation)) (k : ℕ) → ((i : ℕ) (g : ℕ × Equation) → slice_get fs i ≡ Some g → g.0 ≡ k → ⊥) → fact_at (lives fs) k ≡ None
fact_none [] k h = refl
fact_none (x ∷ fs) k h = go (x.0 == k) refl (fact_none fs k (λ i g e. h (suc i) g e))
  where
    go : (b : Bool) → (x.0 == k) ≡ b → fact_at (lives fs) k ≡ None → (if b then Some x.1 else fact_at (lives fs) k) ≡ None
    go true q r = absurd (h 0 x refl (eqb-true x.0 k q))
    go false q r = r

-- on both sides of a place
pub below_more : (fs : List (ℕ × Equation)) (middle fact : ℕ) (m : ℕ × Equation) → AreRising (lives fs) → slice_get fs middle ≡ Some m → m.0 < fact → (j : ℕ) (f : ℕ × Equation) → j < middle + 1 → slice_get fs j ≡ Some f → f.0 < fact
below_more fs middle fact m r g h j f k e = go (let z : (j < middle) ⊎ (j ≡ middle) = grind arith in z)
  where
    go : (j < middle) ⊎ (j ≡ middle) → f.0 < fact
    go (inl l) = omega (arith, rise_at 0 fs j middle f m r l e g)
    go (inr q) = (let e' : slice_get fs middle ≡ Some f = subst (λ (z : ℕ). slice_get fs z ≡ Some f) q e in let same : f ≡ m = cc in omega (arith, ap (λ (z : ℕ × Equation). z.0) same))

pub not_below_more : (fs : List (ℕ × Equation)) (middle fact : ℕ) (m : ℕ × Equation) → AreRising (lives fs) → slice_get fs middle ≡ Some m → fact ≤ m.0 → (j : ℕ) (f : ℕ × Equation) → middle ≤ j → slice_get fs j ≡ Some f → fact ≤ f.0
not_below_more fs middle fact m r g h j f k e = go (let z : (middle < j) ⊎ (j ≡ middle) = grind arith in z)
  where
    go : (middle < j) ⊎ (j ≡ middle) → fact ≤ f.0
    go (inl l) = omega (arith, rise_at 0 fs middle j m f r l g e)
    go (inr q) = (let e' : slice_get fs middle ≡ Some f = subst (λ (z : ℕ). slice_get fs z ≡ Some f) q e in let same : f ≡ m = cc in omega (arith, ap (λ (z : ℕ × Equation). z.0) same))

-- on both sides of a fact's seat
pub below_seat : (fs : List (ℕ × Equation)) (place fact : ℕ) → AreRising (lives fs) → IsSeated fs fact place → (j : ℕ) (f : ℕ × Equation) → j < place → slice_get fs j ≡ Some f → f.0 < fact
below_seat fs place fact r s j f l e = omega (arith, rise_at 0 fs j place f s.fact r l e s.is, s.number_is)

pub not_below_seat : (fs : List (ℕ × Equation)) (place fact : ℕ) → AreRising (lives fs) → IsSeated fs fact place → (j : ℕ) (f : ℕ × Equation) → place ≤ j → slice_get fs j ≡ Some f → fact ≤ f.0
not_below_seat fs place fact r s = not_below_more fs place fact s.fact r s.is (omega (arith, s.number_is))

-- no fact has the number
pub fact_past : (fs : List (ℕ × Equation)) (place fact : ℕ) → length fs ≤ place → ((j : ℕ) (f : ℕ × Equation) → j < place → slice_get fs j ≡ Some f → f.0 < fact) → fact_at (lives fs) fact ≡ None
fact_past fs place fact h low = fact_none fs fact (λ i g e is. omega (arith, low i g (omega (arith, slice_get_within fs i g e)) e))

pub fact_between : (fs : List (ℕ × Equation)) (place fact : ℕ) (f : ℕ × Equation) → AreRising (lives fs) → slice_get fs place ≡ Some f → (f.0 ≡ fact → ⊥) → ((j : ℕ) (g : ℕ × Equation) → j < place → slice_get fs j ≡ Some g → g.0 < fact) → ((j : ℕ) (g : ℕ × Equation) → place ≤ j → slice_get fs j ≡ Some g → fact ≤ g.0) → fact_at (lives fs) fact ≡ None
fact_between fs place fact f r e other low high = fact_none fs fact (λ i g k is. go i g k is (let z : (i < place) ⊎ ((i ≡ place) ⊎ (place < i)) = grind arith in z))
  where
    go : (i : ℕ) (g : ℕ × Equation) → slice_get fs i ≡ Some g → g.0 ≡ fact → (i < place) ⊎ ((i ≡ place) ⊎ (place < i)) → ⊥
    go i g k is (inl l) = omega (arith, low i g l k)
    go i g k is (inr (inl q)) = (let k' : slice_get fs place ≡ Some g = subst (λ (z : ℕ). slice_get fs z ≡ Some g) q k in let same : f ≡ g = cc in other (ap (λ (z : ℕ × Equation). z.0) same ∙ is))
    go i g k is (inr (inr l)) = omega (arith, high place f (omega arith) e, rise_at 0 fs place i f g r l e k)
