-- What is found by looking through a list.
use Rattle.std.proofs.Common.{◌≡◌, ℕ, zero, suc, ◌==◌, ◌+◌, ◌<◌, ◌≤◌, Bool, true, false, List, [], ◌∷◌, ◌++◌, length, drop, get_or, slice_get, Option, Some, None, if◌then◌else◌, MatchOption, Result, Ok, Err, OnErr, refl, sym, ap, ◌∙◌, arith, append_assoc, append-nil, subst}
use Rattle.std.proofs.lemmas.Bool.{eqb-true, eq-eqb}
use Rattle.std.proofs.lemmas.Option.{slice_get-get_or, slice_get_past}
use Rattle.std.proofs.Math.Seq.{drop-cons}
use Rattle.std.proofs.Math.ListN.{drop_of_length-le}
use Rattle.std.proofs.Common.{add-one}
use Rattle.uc_term.specs.declared.equation.Equation.{Equation}
use Rattle.uc_term.specs.Tree.{Tree}
use Rattle.uc_term.specs.Subst.{image}
use Rattle.uc_unify.specs.Matching.{IsMatch, HasNoMatch}
use Rattle.uc_fact.specs.declared.index.Found.{Found}
use Rattle.uc_fact.specs.Live.{Rule, fact_at, numbered_from, numbered, rule_of, rules_of}
use Rattle.uc_term.specs.declared.equation.Side.TheVariants.{Left, Right}
use Rattle.uc_fact.specs.Retrieval.{Generalises, no_rules, is_instance, is_no_instance, IsFound, by_first, by_later, FirstThat, no_rule_left, accepted, not_accepted}
use Rattle.uc_fact.specs.Against.{HasMatch}
use Rattle.uc_rewrite.specs.Scanning.{live_fact, Adds}

pub err_of : {T E : Type 0} (r : Result T E) (P : Type 0) → P → OnErr r P
err_of (Ok x) P p = tt
err_of (Err e) P p = p

-- the fact of a number is the one at its place
pub fact_numbered : (n : ℕ) (es : List Equation) (i : ℕ) → fact_at (numbered_from n es) (n + i) ≡ slice_get es i
fact_numbered n [] i = refl
fact_numbered n (e ∷ es) zero =
    let h : (n == (n + 0)) ≡ true = eq-eqb n (n + 0) (omega arith) in
    ap (λ (b : Bool). if b then Some e else fact_at (numbered_from (n + 1) es) (n + 0)) h
fact_numbered n (e ∷ es) (suc i) = ap (λ (b : Bool). if b then Some e else fact_at (numbered_from (n + 1) es) (n + suc i)) (other (n == (n + suc i)) refl) ∙ ap (fact_at (numbered_from (n + 1) es)) (let s : n + suc i ≡ n + 1 + i = omega arith in s) ∙ fact_numbered (n + 1) es i
  where
    other : (b : Bool) → (n == (n + suc i)) ≡ b → b ≡ false
    other false q = refl
    other true q = absurd (let s : n ≡ n + suc i = eqb-true n (n + suc i) q in omega arith)

-- what stands at a place
pub drop_there : (es : List Equation) (i : ℕ) (e : Equation) → i < length es → e ≡ get_or es i e → drop i es ≡ e ∷ drop (i + 1) es
drop_there es i e h at = rw (add-one, drop-cons es i e h) (ap (λ x. x ∷ drop (suc i) es) (sym at))

pub fact_there : (es : List Equation) (i : ℕ) (e : Equation) → i < length es → e ≡ get_or es i e → fact_at (numbered es) i ≡ Some e
fact_there es i e h at = ap (fact_at (numbered es)) (let z : i ≡ 0 + i = omega arith in z) ∙ fact_numbered 0 es i ∙ slice_get-get_or es i e h ∙ ap Some (sym at)

pub no_fact : (es : List Equation) (i : ℕ) → length es ≤ i → fact_at (numbered es) i ≡ None
no_fact es i h = ap (fact_at (numbered es)) (let z : i ≡ 0 + i = omega arith in z) ∙ fact_numbered 0 es i ∙ slice_get_past es i h

pub match_some : (p q t : Tree) (o : Option (List (ℕ × Tree))) (pairs : List (ℕ × Tree)) → MatchOption o (HasNoMatch p t) (IsMatch p t) → o ≡ Some pairs → p ≡ q → IsMatch q t pairs
match_some p q t None pairs m e f = absurd cc
match_some p q t (Some ps) pairs m e f = subst (λ z. IsMatch z t pairs) f (subst (λ z. IsMatch p t z) (let h : ps ≡ pairs = cc in h) m)

pub match_none : (p q t : Tree) (o : Option (List (ℕ × Tree))) → MatchOption o (HasNoMatch p t) (IsMatch p t) → o ≡ None → p ≡ q → HasNoMatch q t
match_none p q t None m e f = subst (λ z. HasNoMatch z t) f m
match_none p q t (Some ps) m e f = absurd cc

module _ (t : Tree) where
  pub joined : (xs ys : List Rule) (ls ms : List Found) → Generalises t xs ls → Generalises t ys ms → Generalises t (xs ++ ys) (ls ++ ms)
  joined [] ys ls ms no_rules h = h
  joined (x ∷ xs) ys _ ms (is_instance {list = ls} m g) h = is_instance m (joined xs ys ls ms g h)
  joined (x ∷ xs) ys ls ms (is_no_instance n g) h = is_no_instance n (joined xs ys ls ms g h)

  -- the list so far, before what the rest gives, is what all give
  abbrev pub Scans : List Equation → ℕ → List Found → Type 0
  Scans facts i list = (rest : List Found) → Generalises t (rules_of (numbered_from i (drop i facts))) rest → Generalises t (rules_of (numbered facts)) (list ++ rest)

  pub scans_on : (facts : List Equation) (i : ℕ) (fact : Equation) (old middle new : List Found) → drop i facts ≡ fact ∷ drop (i + 1) facts → Adds t (rule_of Left (live_fact i fact) ∷ []) old middle → Adds t (rule_of Right (live_fact i fact) ∷ []) middle new → Scans facts i old → Scans facts (i + 1) new
  scans_on facts i fact old middle new at a b s rest g =
      let both : Generalises t (rules_of (live_fact i fact ∷ numbered_from (i + 1) (drop (i + 1) facts))) (a.list ++ (b.list ++ rest)) = joined (rule_of Left (live_fact i fact) ∷ []) (rule_of Right (live_fact i fact) ∷ rules_of (numbered_from (i + 1) (drop (i + 1) facts))) a.list (b.list ++ rest) a.generalises (joined (rule_of Right (live_fact i fact) ∷ []) (rules_of (numbered_from (i + 1) (drop (i + 1) facts))) b.list rest b.generalises g) in
      let all = s (a.list ++ (b.list ++ rest)) (subst (λ l. Generalises t (rules_of (numbered_from i l)) (a.list ++ (b.list ++ rest))) (sym at) both) in
      subst (λ l. Generalises t (rules_of (numbered facts)) l) (sym (append_assoc old a.list (b.list ++ rest)) ∙ ap (λ l. l ++ (b.list ++ rest)) (sym a.new_is) ∙ sym (append_assoc middle b.list rest) ∙ ap (λ l. l ++ rest) (sym b.new_is)) all

  pub scanned : (facts : List Equation) (i : ℕ) (list : List Found) → drop i facts ≡ [] → Scans facts i list → Generalises t (rules_of (numbered facts)) list
  scanned facts i list e s = subst (λ l. Generalises t (rules_of (numbered facts)) l) (append-nil list) (s [] (subst (λ l. Generalises t (rules_of (numbered_from i l)) []) (sym e) no_rules))

  module _ (Accepted : Found → Type 0) where
    pub first_past : (xs ys : List Rule) (answer : Option Found) → FirstThat Accepted t xs None → FirstThat Accepted t ys answer → FirstThat Accepted t (xs ++ ys) answer
    first_past [] ys answer no_rule_left h = h
    first_past (x ∷ xs) ys answer (not_accepted n f) h = not_accepted n (first_past xs ys answer f h)

    pub first_here : (xs ys : List Rule) (found : Found) → FirstThat Accepted t xs (Some found) → FirstThat Accepted t (xs ++ ys) (Some found)
    first_here [] ys found f = elim f [ ]
    first_here (x ∷ xs) ys _ (accepted m a) = accepted m a
    first_here (x ∷ xs) ys found (not_accepted n f) = not_accepted n (first_here xs ys found f)

    -- what the rest comes to, all come to
    abbrev pub Passes : List Equation → ℕ → Type 0
    Passes facts i = (answer : Option Found) → FirstThat Accepted t (rules_of (numbered_from i (drop i facts))) answer → FirstThat Accepted t (rules_of (numbered facts)) answer

    pub passes_on : (facts : List Equation) (i : ℕ) (fact : Equation) → drop i facts ≡ fact ∷ drop (i + 1) facts → FirstThat Accepted t (rules_of (live_fact i fact ∷ [])) None → Passes facts i → Passes facts (i + 1)
    passes_on facts i fact at f p answer h = p answer (subst (λ l. FirstThat Accepted t (rules_of (numbered_from i l)) answer) (sym at) (first_past (rules_of (live_fact i fact ∷ [])) (rules_of (numbered_from (i + 1) (drop (i + 1) facts))) answer f h))

    pub passes_here : (facts : List Equation) (i : ℕ) (fact : Equation) (found : Found) → drop i facts ≡ fact ∷ drop (i + 1) facts → FirstThat Accepted t (rules_of (live_fact i fact ∷ [])) (Some found) → Passes facts i → FirstThat Accepted t (rules_of (numbered facts)) (Some found)
    passes_here facts i fact found at f p = p (Some found) (subst (λ l. FirstThat Accepted t (rules_of (numbered_from i l)) (Some found)) (sym at) (first_here (rules_of (live_fact i fact ∷ [])) (rules_of (numbered_from (i + 1) (drop (i + 1) facts))) found f))

    pub none_passes : (facts : List Equation) (i : ℕ) → drop i facts ≡ [] → Passes facts i → FirstThat Accepted t (rules_of (numbered facts)) None
    none_passes facts i e p = p None (subst (λ l. FirstThat Accepted t (rules_of (numbered_from i l)) None) (sym e) no_rule_left)

  -- where nothing is found by all, nothing is found by a part
  pub nothing_left : (xs ys : List Rule) → Generalises t (xs ++ ys) [] → Generalises t xs []
  nothing_left [] ys g = no_rules
  nothing_left (x ∷ xs) ys (is_no_instance n g) = is_no_instance n (nothing_left xs ys g)

  pub nothing_right : (xs ys : List Rule) → Generalises t (xs ++ ys) [] → Generalises t ys []
  nothing_right [] ys g = g
  nothing_right (x ∷ xs) ys (is_no_instance n g) = nothing_right xs ys g

  nothing_in : (n i : ℕ) (es : List Equation) → Generalises t (rules_of (numbered_from n es)) [] → Generalises t (rules_of (numbered_from (n + i) (drop i es))) []
  nothing_in n zero es g = subst (λ k. Generalises t (rules_of (numbered_from k es)) []) (let e : n ≡ n + 0 = omega arith in e) g
  nothing_in n (suc i) [] g = no_rules
  nothing_in n (suc i) (e ∷ es) (is_no_instance _ (is_no_instance _ g)) = subst (λ k. Generalises t (rules_of (numbered_from k (drop i es))) []) (let s : n + 1 + i ≡ n + suc i = omega arith in s) (nothing_in (n + 1) i es g)

  pub nothing_at : (facts : List Equation) (i : ℕ) (fact : Equation) → drop i facts ≡ fact ∷ drop (i + 1) facts → Generalises t (rules_of (numbered facts)) [] → Generalises t (rules_of (live_fact i fact ∷ [])) []
  nothing_at facts i fact at g =
      let h : Generalises t (rules_of (numbered_from i (drop i facts))) [] = subst (λ k. Generalises t (rules_of (numbered_from k (drop i facts))) []) (let e : 0 + i ≡ i = omega arith in e) (nothing_in 0 i facts g) in
      nothing_left (rules_of (live_fact i fact ∷ [])) (rules_of (numbered_from (i + 1) (drop (i + 1) facts))) (subst (λ l. Generalises t (rules_of (numbered_from i l)) []) at h)

  -- a match is something
  pub something : (rule : Rule) → HasMatch rule.from t → Generalises t (rule ∷ []) [] → ⊥
  something rule m (is_no_instance n g) = n m.σ m.gives

  pub something_by : (rule : Rule) (pairs : List (ℕ × Tree)) → IsMatch rule.from t pairs → Generalises t (rule ∷ []) [] → ⊥
  something_by rule pairs m (is_no_instance n g) = n (image pairs) m.gives

  -- what is found by a part of the facts is found by all
  pub found_more : (xs ys : List Rule) (found : Found) (from to : Tree) → IsFound t xs found from to → IsFound t (xs ++ ys) found from to
  found_more [] ys found from to i = elim i [ ]
  found_more (x ∷ xs) ys _ _ _ (by_first m) = by_first m
  found_more (x ∷ xs) ys found from to (by_later i) = by_later (found_more xs ys found from to i)

  found_in : (n i : ℕ) (es : List Equation) (found : Found) (from to : Tree) → IsFound t (rules_of (numbered_from (n + i) (drop i es))) found from to → IsFound t (rules_of (numbered_from n es)) found from to
  found_in n zero es found from to f = subst (λ k. IsFound t (rules_of (numbered_from k es)) found from to) (let e : n + 0 ≡ n = omega arith in e) f
  found_in n (suc i) [] found from to f = elim f [ ]
  found_in n (suc i) (e ∷ es) found from to f = by_later (by_later (found_in (n + 1) i es found from to (subst (λ k. IsFound t (rules_of (numbered_from k (drop i es))) found from to) (let s : n + suc i ≡ n + 1 + i = omega arith in s) f)))

  pub found_at : (facts : List Equation) (i : ℕ) (fact : Equation) (found : Found) (from to : Tree) → drop i facts ≡ fact ∷ drop (i + 1) facts → IsFound t (rules_of (live_fact i fact ∷ [])) found from to → IsFound t (rules_of (numbered facts)) found from to
  found_at facts i fact found from to at f =
      let g : IsFound t (rules_of (numbered_from i (drop i facts))) found from to = subst (λ l. IsFound t (rules_of (numbered_from i l)) found from to) (sym at) (found_more (rules_of (live_fact i fact ∷ [])) (rules_of (numbered_from (i + 1) (drop (i + 1) facts))) found from to f) in
      found_in 0 i facts found from to (subst (λ k. IsFound t (rules_of (numbered_from k (drop i facts))) found from to) (let e : i ≡ 0 + i = omega arith in e) g)

pub past_end : (es : List Equation) (i : ℕ) → length es ≤ i → drop i es ≡ []
past_end es i h = drop_of_length-le es h

pub answered : (Accepted : Found → Type 0) (t : Tree) (rules : List Rule) (a b : Option Found) → a ≡ b → FirstThat Accepted t rules a → FirstThat Accepted t rules b
answered Accepted t rules a b e f = subst (FirstThat Accepted t rules) e f
