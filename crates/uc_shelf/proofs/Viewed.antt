-- What is found by looking through the entries of a front.
use Rattle.std.proofs.Common.{◌≡◌, ℕ, zero, suc, ◌==◌, ◌+◌, ◌≤◌, Bool, true, false, List, [], ◌∷◌, ◌++◌, length, drop, slice_get, Option, Some, None, if◌then◌else◌, refl, sym, ap, ◌∙◌, arith, append_assoc, append-nil, subst, inl, inr}
use Rattle.std.specs.Prelude.{not, filter}
use Rattle.std.proofs.lemmas.Bool.{cases_Bool, eqb-true}
use Rattle.std.proofs.Math.ListN.{drop_of_length-le}
use Rattle.uc_term.specs.declared.equation.Side.{Side}
use Rattle.uc_term.specs.declared.equation.Side.TheVariants.{Left, Right}
use Rattle.uc_term.specs.Tree.{Tree}
use Rattle.uc_term.specs.Equations.{side_of}
use Rattle.uc_unify.specs.Matching.{HasNoMatch}
use Rattle.uc_fact.specs.declared.fact.Fact.{Fact}
use Rattle.uc_fact.specs.declared.index.Found.{Found}
use Rattle.uc_fact.specs.Live.{Live, Rule, fact_at, numbered_from, rule_of, rules_of, equation_of}
use Rattle.uc_fact.specs.Retrieval.{Generalises, no_rules, is_instance, is_no_instance, IsFound, by_first, by_later, FirstThat, no_rule_left, accepted, not_accepted}
use Rattle.uc_shelf.specs.declared.entry.Entry.{Entry}
use Rattle.uc_shelf.specs.declared.entry.Entry.TheVariants.{Born, Dies}
use Rattle.uc_shelf.specs.Entries.{born, is_dead, equations, living}
use Rattle.uc_shelf.specs.Viewing.{rule_if_lives}
use Rattle.std.specs.Prelude.{Result, Ok, Err, OnErr}
use Rattle.uc_term.specs.Subst.{image}
use Rattle.uc_fact.specs.Against.{HasMatch}

-- the entry of a number and what stands behind it
pub drop_at : (es : List Entry) (k : ℕ) (e : Entry) → Some e ≡ slice_get es k → drop k es ≡ e ∷ drop (k + 1) es
drop_at [] k e h = absurd (cc)
drop_at (x ∷ es) zero e h = let same : e ≡ x = cc in ap (λ z. z ∷ es) (sym same)
drop_at (x ∷ es) (suc k) e h = let s : suc k + 1 ≡ suc (k + 1) = omega arith in rw s (drop_at es k e h)

pub past_end : (es : List Entry) (k : ℕ) → length es ≤ k → drop k es ≡ []
past_end es k h = drop_of_length-le es h

-- an entry and those behind it

pub numbered_split : (n : ℕ) (e : Entry) (es : List Entry) → numbered_from n (equations (e ∷ es)) ≡ numbered_from n (equations (e ∷ [])) ++ numbered_from (n + length (born (e ∷ []))) (equations es)
numbered_split n (Born f) es = refl
numbered_split n (Dies f k) es = ap (λ m. numbered_from m (equations es)) (let e : n ≡ n + 0 = omega arith in e)

pub filtered : (p : Live → Bool) (xs ys : List Live) → filter p (xs ++ ys) ≡ filter p xs ++ filter p ys
filtered p [] ys = refl
filtered p (x ∷ xs) ys = elim (cases_Bool (p x)) as (λ _. filter p (x ∷ (xs ++ ys)) ≡ filter p (x ∷ xs) ++ filter p ys) [
  | inl b ↦ rw b (ap (λ z. x ∷ z) (filtered p xs ys))
  | inr b ↦ rw b (filtered p xs ys)
]

pub living_split : (all : List Entry) (n : ℕ) (e : Entry) (es : List Entry) → living all n (e ∷ es) ≡ living all n (e ∷ []) ++ living all (n + length (born (e ∷ []))) es
living_split all n e es = ap (filter (λ (f : Live). not (is_dead all f.number))) (numbered_split n e es) ∙ filtered (λ (f : Live). not (is_dead all f.number)) (numbered_from n (equations (e ∷ []))) (numbered_from (n + length (born (e ∷ []))) (equations es))

pub rules_split : (xs ys : List Live) → rules_of (xs ++ ys) ≡ rules_of xs ++ rules_of ys
rules_split [] ys = refl
rules_split (x ∷ xs) ys = ap (λ z. rule_of Left x ∷ rule_of Right x ∷ z) (rules_split xs ys)

pub rules_at : (all es : List Entry) (k n : ℕ) (e : Entry) → Some e ≡ slice_get es k → rules_of (living all n (drop k es)) ≡ rules_of (living all n (e ∷ [])) ++ rules_of (living all (n + length (born (e ∷ []))) (drop (k + 1) es))
rules_at all es k n e at = ap (λ z. rules_of (living all n z)) (drop_at es k e at) ∙ ap rules_of (living_split all n e (drop (k + 1) es)) ∙ rules_split (living all n (e ∷ [])) (living all (n + length (born (e ∷ []))) (drop (k + 1) es))

pub rules_end : (all es : List Entry) (k n : ℕ) → length es ≤ k → rules_of (living all n (drop k es)) ≡ []
rules_end all es k n h = ap (λ z. rules_of (living all n z)) (past_end es k h)

-- a fact that is born is read from both sides, if it lives
pub both_sides : (all : List Entry) (n : ℕ) (f : Fact) → rules_of (living all n (Born f ∷ [])) ≡ rule_if_lives all Left n f ++ rule_if_lives all Right n f
both_sides all n f = elim (cases_Bool (is_dead all n)) as (λ _. rules_of (living all n (Born f ∷ [])) ≡ rule_if_lives all Left n f ++ rule_if_lives all Right n f) [
  | inl b ↦ rw b refl
  | inr b ↦ rw b refl
]

-- the fact of a number

pub none_if_dead : (all : List Entry) (i : ℕ) (fs : List Live) → is_dead all i ≡ true → fact_at (filter (λ (f : Live). not (is_dead all f.number)) fs) i ≡ None
none_if_dead all i [] h = refl
none_if_dead all i (f ∷ fs) h = elim (cases_Bool (is_dead all f.number)) as (λ _. fact_at (filter (λ (f : Live). not (is_dead all f.number)) (f ∷ fs)) i ≡ None) [
  | inl b ↦ rw b (none_if_dead all i fs h)
  | inr b ↦ rw b (elim (cases_Bool (f.number == i)) as (λ _. (if f.number == i then Some f.equation else fact_at (filter (λ (f : Live). not (is_dead all f.number)) fs) i) ≡ None) [
    | inl q ↦ (let same : is_dead all f.number ≡ is_dead all i = ap (is_dead all) (eqb-true f.number i q) in absurd (cc))
    | inr q ↦ rw q (none_if_dead all i fs h)
  ])
]

pub same_if_alive : (all : List Entry) (i : ℕ) (fs : List Live) → is_dead all i ≡ false → fact_at (filter (λ (f : Live). not (is_dead all f.number)) fs) i ≡ fact_at fs i
same_if_alive all i [] h = refl
same_if_alive all i (f ∷ fs) h = elim (cases_Bool (is_dead all f.number)) as (λ _. fact_at (filter (λ (f : Live). not (is_dead all f.number)) (f ∷ fs)) i ≡ fact_at (f ∷ fs) i) [
  | inl b ↦ rw b (elim (cases_Bool (f.number == i)) as (λ _. fact_at (filter (λ (f : Live). not (is_dead all f.number)) fs) i ≡ (if f.number == i then Some f.equation else fact_at fs i)) [
    | inl q ↦ (let same : is_dead all f.number ≡ is_dead all i = ap (is_dead all) (eqb-true f.number i q) in absurd (cc))
    | inr q ↦ rw q (same_if_alive all i fs h)
  ])
  | inr b ↦ rw b (elim (cases_Bool (f.number == i)) as (λ _. (if f.number == i then Some f.equation else fact_at (filter (λ (f : Live). not (is_dead all f.number)) fs) i) ≡ (if f.number == i then Some f.equation else fact_at fs i)) [
    | inl q ↦ rw q refl
    | inr q ↦ rw q (same_if_alive all i fs h)
  ])
]

pub err_of : {T E : Type 0} (r : Result T E) (P : Type 0) → P → OnErr r P
err_of (Ok x) P p = tt
err_of (Err e) P p = p

pub answered : (Accepted : Found → Type 0) (t : Tree) (rules : List Rule) (a b : Option Found) → a ≡ b → FirstThat Accepted t rules a → FirstThat Accepted t rules b
answered Accepted t rules a b e f = subst (FirstThat Accepted t rules) e f

module _ (t : Tree) where
  pub joined : (xs ys : List Rule) (ls ms : List Found) → Generalises t xs ls → Generalises t ys ms → Generalises t (xs ++ ys) (ls ++ ms)
  joined [] ys ls ms no_rules h = h
  joined (x ∷ xs) ys _ ms (is_instance {list = ls} m g) h = is_instance m (joined xs ys ls ms g h)
  joined (x ∷ xs) ys ls ms (is_no_instance n g) h = is_no_instance n (joined xs ys ls ms g h)

  -- nothing is found by a part of the rules, where nothing is found by all

  pub nothing_left : (xs ys : List Rule) → Generalises t (xs ++ ys) [] → Generalises t xs []
  nothing_left [] ys g = no_rules
  nothing_left (x ∷ xs) ys (is_no_instance n g) = is_no_instance n (nothing_left xs ys g)

  pub nothing_right : (xs ys : List Rule) → Generalises t (xs ++ ys) [] → Generalises t ys []
  nothing_right [] ys g = g
  nothing_right (x ∷ xs) ys (is_no_instance n g) = nothing_right xs ys g

  pub not_nothing : (rules : List Rule) (found : Found) (list : List Found) → Generalises t rules (found ∷ list) → Generalises t rules [] → ⊥
  not_nothing [] found list g n = elim g [ ]
  not_nothing (x ∷ xs) _ list (is_instance {pairs = pairs} m g) (is_no_instance n h) = n (image pairs) m.gives
  not_nothing (x ∷ xs) found list (is_no_instance m g) (is_no_instance n h) = not_nothing xs found list g h

  -- the list so far, before what the rest of the rules gives, is what all give; and where all give nothing, so does the rest
  pub record Ahead (all left : List Rule) (list : List Found) : Type 0 where
    pub gives : (rest : List Found) → Generalises t left rest → Generalises t all (list ++ rest)
    pub nothing : Generalises t all [] → Generalises t left []

  pub ahead_on : (all left these later : List Rule) (old list new : List Found) → left ≡ these ++ later → new ≡ old ++ list → Generalises t these list → Ahead all left old → Ahead all later new
  ahead_on all left these later old list new at is g s = record {
    gives = λ rest h. (
        let more : Generalises t all (old ++ (list ++ rest)) = s.gives (list ++ rest) (subst (λ r. Generalises t r (list ++ rest)) (sym at) (joined these later list rest g h)) in
        subst (Generalises t all) (sym (append_assoc old list rest) ∙ ap (λ l. l ++ rest) (sym is)) more);
    nothing = λ h. nothing_right these later (subst (λ r. Generalises t r []) at (s.nothing h));
  }

  pub nothing_now : (all left these later : List Rule) (list : List Found) → left ≡ these ++ later → Ahead all left list → Generalises t all [] → Generalises t these []
  nothing_now all left these later list at s g = nothing_left these later (subst (λ r. Generalises t r []) at (s.nothing g))

  pub all_found : (all left : List Rule) (list : List Found) → left ≡ [] → Ahead all left list → Generalises t all list
  all_found all left list e s = subst (Generalises t all) (append-nil list) (s.gives [] (subst (λ r. Generalises t r []) (sym e) no_rules))

  -- one side of a fact

  pub nothing_of : (all : List Entry) (side : Side) (n : ℕ) (f : Fact) → HasNoMatch (side_of side (equation_of f)) t → Generalises t (rule_if_lives all side n f) []
  nothing_of all side n f none = elim (cases_Bool (is_dead all n)) as (λ _. Generalises t (rule_if_lives all side n f) []) [
    | inl b ↦ rw b no_rules
    | inr b ↦ rw b (is_no_instance none no_rules)
  ]

  pub nothing_dead : (all : List Entry) (side : Side) (n : ℕ) (f : Fact) → is_dead all n ≡ true → Generalises t (rule_if_lives all side n f) []
  nothing_dead all side n f b = rw b no_rules

  pub something_alive : (all : List Entry) (side : Side) (n : ℕ) (f : Fact) → is_dead all n ≡ false → HasMatch (side_of side (equation_of f)) t → Generalises t (rule_if_lives all side n f) [] → ⊥
  something_alive all side n f b m g = found_none (rule_of side (record { number = n; equation = equation_of f })) m (subst (λ r. Generalises t r []) (let e : rule_if_lives all side n f ≡ rule_of side (record { number = n; equation = equation_of f }) ∷ [] = rw b refl in e) g)
    where
      found_none : (rule : Rule) → HasMatch rule.from t → Generalises t (rule ∷ []) [] → ⊥
      found_none rule m (is_no_instance n g) = n m.σ m.gives

  -- what some of the rules find, all find
  pub found_before : (xs ys : List Rule) (found : Found) (from to : Tree) → IsFound t xs found from to → IsFound t (xs ++ ys) found from to
  found_before [] ys found from to i = elim i [ ]
  found_before (x ∷ xs) ys _ _ _ (by_first m) = by_first m
  found_before (x ∷ xs) ys found from to (by_later i) = by_later (found_before xs ys found from to i)

  pub found_behind : (xs ys : List Rule) (found : Found) (from to : Tree) → IsFound t ys found from to → IsFound t (xs ++ ys) found from to
  found_behind [] ys found from to i = i
  found_behind (x ∷ xs) ys found from to i = by_later (found_behind xs ys found from to i)

  module _ (Accepted : Found → Type 0) where
    pub first_past : (xs ys : List Rule) (answer : Option Found) → FirstThat Accepted t xs None → FirstThat Accepted t ys answer → FirstThat Accepted t (xs ++ ys) answer
    first_past [] ys answer no_rule_left h = h
    first_past (x ∷ xs) ys answer (not_accepted n f) h = not_accepted n (first_past xs ys answer f h)

    pub first_here : (xs ys : List Rule) (found : Found) → FirstThat Accepted t xs (Some found) → FirstThat Accepted t (xs ++ ys) (Some found)
    first_here [] ys found f = elim f [ ]
    first_here (x ∷ xs) ys _ (accepted m a) = accepted m a
    first_here (x ∷ xs) ys found (not_accepted n f) = not_accepted n (first_here xs ys found f)

    pub none_of_nothing : (rules : List Rule) → Generalises t rules [] → FirstThat Accepted t rules None
    none_of_nothing [] no_rules = no_rule_left
    none_of_nothing (x ∷ xs) (is_no_instance n g) = not_accepted (λ pairs m a. n (image pairs) m.gives) (none_of_nothing xs g)

    -- what the rest of the rules comes to, all come to; what the rest finds, all find; and it finds nothing, where all don't
    pub record Passes (all left : List Rule) : Type 0 where
      pub nothing : Generalises t all [] → Generalises t left []
      pub comes_to : (answer : Option Found) → FirstThat Accepted t left answer → FirstThat Accepted t all answer
      pub finds : (found : Found) (from to : Tree) → IsFound t left found from to → IsFound t all found from to

    pub passes_on : (all left these later : List Rule) → left ≡ these ++ later → FirstThat Accepted t these None → Passes all left → Passes all later
    passes_on all left these later at f p = record {
      nothing = λ g. nothing_right these later (subst (λ r. Generalises t r []) at (p.nothing g));
      comes_to = λ answer h. p.comes_to answer (subst (λ r. FirstThat Accepted t r answer) (sym at) (first_past these later answer f h));
      finds = λ found from to i. p.finds found from to (subst (λ r. IsFound t r found from to) (sym at) (found_behind these later found from to i));
    }

    pub passes_here : (all left these later : List Rule) (found : Found) → left ≡ these ++ later → FirstThat Accepted t these (Some found) → Passes all left → FirstThat Accepted t all (Some found)
    passes_here all left these later found at f p = p.comes_to (Some found) (subst (λ r. FirstThat Accepted t r (Some found)) (sym at) (first_here these later found f))

    pub found_here : (all left these later : List Rule) (found : Found) (from to : Tree) → left ≡ these ++ later → Passes all left → IsFound t these found from to → IsFound t all found from to
    found_here all left these later found from to at p i = p.finds found from to (subst (λ r. IsFound t r found from to) (sym at) (found_before these later found from to i))

    pub nothing_here : (all left these later : List Rule) → left ≡ these ++ later → Passes all left → Generalises t all [] → Generalises t these []
    nothing_here all left these later at p g = nothing_left these later (subst (λ r. Generalises t r []) at (p.nothing g))

    pub none_passes : (all left : List Rule) → left ≡ [] → Passes all left → FirstThat Accepted t all None
    none_passes all left e p = p.comes_to None (subst (λ r. FirstThat Accepted t r None) (sym e) no_rule_left)
