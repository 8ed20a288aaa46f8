-- Where the axioms and goals of an encoded problem come from.
use Rattle.std.proofs.Common.{◌≡◌, ℕ, zero, suc, ◌+◌, Bool, true, false, List, [], ◌∷◌, ◌++◌, length, map, slice_get, Option, Some, None, Ok, refl, sym, ap, ◌∙◌, subst, arith, ◌⊎◌, inl, inr, if◌then◌else◌}
use Rattle.std.specs.List.{list_any}
use Rattle.std.proofs.lemmas.Bool.{or_parts}
use Rattle.uc_term.specs.Encoding.{reflexive, refuted}
use Rattle.uc_term.specs.declared.equation.Equation.{Equation}
use Rattle.uc_term.specs.declared.fresh.Fresh.{Fresh}
use Rattle.uc_term.proofs.Gets.{get-map, map-get}
use Rattle.uc_clause.specs.declared.clause.Sourced.{Sourced}
use Rattle.uc_check.specs.Clauses.{equation_of, axioms_of, goals_of}
use Rattle.uc_problem.specs.declared.problem.Problem.{Problem}
use Rattle.uc_problem.specs.declared.problem.Encoded.{Encoded}
use Rattle.uc_problem.specs.declared.problem.Source.TheVariants as source
use Rattle.uc_problem.specs.Holds.{numbers_of}
use Rattle.uc_problem.specs.Marks.{Marks, is_open_goal}
use Rattle.uc_problem.specs.Encodes.{equations_where, numbers_where, is_ground_goal, last_goal, encoding_of}
use Rattle.uc_proof.specs.Extracted.{IsEncodingOf}

abbrev is_positive : Sourced → Bool
is_positive s = s.clause.positive

abbrev is_negative : Sourced → Bool
is_negative s = if s.clause.positive then false else true

-- the clause of an equation of the clauses that are so, and its number
pub record Stands (is : Sourced → Bool) (n : ℕ) (ss : List Sourced) (k : ℕ) (e : Equation) : Type 0 where
  pub number : ℕ
  pub sourced : Sourced
  pub there : slice_get ss number ≡ Some sourced
  pub so : is sourced ≡ true
  pub numbered : slice_get (numbers_where is n ss) k ≡ Some (n + number)
  pub equation_is : equation_of sourced.clause ≡ e

module _ (is : Sourced → Bool) where
  equations_so : (s : Sourced) (ss : List Sourced) → is s ≡ true → equations_where is (s ∷ ss) ≡ equation_of s.clause ∷ equations_where is ss
  equations_so s ss e = rw e refl

  equations_not : (s : Sourced) (ss : List Sourced) → is s ≡ false → equations_where is (s ∷ ss) ≡ equations_where is ss
  equations_not s ss e = rw e refl

  numbers_so : (n : ℕ) (s : Sourced) (ss : List Sourced) → is s ≡ true → numbers_where is n (s ∷ ss) ≡ n ∷ numbers_where is (n + 1) ss
  numbers_so n s ss e = rw e refl

  numbers_not : (n : ℕ) (s : Sourced) (ss : List Sourced) → is s ≡ false → numbers_where is n (s ∷ ss) ≡ numbers_where is (n + 1) ss
  numbers_not n s ss e = rw e refl

  later : (n : ℕ) (s : Sourced) (ss : List Sourced) (k : ℕ) (e : Equation) (r : Stands is (n + 1) ss k e) (j : ℕ) → slice_get (numbers_where is n (s ∷ ss)) j ≡ slice_get (numbers_where is (n + 1) ss) k → Stands is n (s ∷ ss) j e
  later n s ss k e r j same = record {
    number = suc r.number;
    sourced = r.sourced;
    there = r.there;
    so = r.so;
    numbered = same ∙ r.numbered ∙ (let q : n + 1 + r.number ≡ n + suc r.number = omega arith in ap Some q);
    equation_is = r.equation_is;
  }

  pub stands : (n : ℕ) (ss : List Sourced) (k : ℕ) (e : Equation) → slice_get (equations_where is ss) k ≡ Some e → Stands is n ss k e
  stands n [] k e h = absurd cc
  stands n (s ∷ ss) k e h = go (is s) refl k h (stands (n + 1) ss)
    where
      go : (b : Bool) → is s ≡ b → (k : ℕ) → slice_get (equations_where is (s ∷ ss)) k ≡ Some e → ((k : ℕ) (e : Equation) → slice_get (equations_where is ss) k ≡ Some e → Stands is (n + 1) ss k e) → Stands is n (s ∷ ss) k e
      go true p zero h rest =
          let same : equation_of s.clause ≡ e = let q : Some (equation_of s.clause) ≡ Some e = ap (λ l. slice_get l 0) (sym (equations_so s ss p)) ∙ h in cc in
          record {
            number = 0;
            sourced = s;
            there = refl;
            so = p;
            numbered = ap (λ l. slice_get l 0) (numbers_so n s ss p) ∙ (let q : n ≡ n + 0 = omega arith in ap Some q);
            equation_is = same;
          }
      go true p (suc k) h rest = later n s ss k e (rest k e (ap (λ l. slice_get l (suc k)) (sym (equations_so s ss p)) ∙ h)) (suc k) (ap (λ l. slice_get l (suc k)) (numbers_so n s ss p))
      go false p k h rest = later n s ss k e (rest k e (ap (λ l. slice_get l k) (sym (equations_not s ss p)) ∙ h)) k (ap (λ l. slice_get l k) (numbers_not n s ss p))

  -- as many equations as numbers
  pub as_many : (n : ℕ) (ss : List Sourced) → length (equations_where is ss) ≡ length (numbers_where is n ss)
  as_many n [] = refl
  as_many n (s ∷ ss) = go (is s) refl (as_many (n + 1) ss)
    where
      go : (b : Bool) → is s ≡ b → length (equations_where is ss) ≡ length (numbers_where is (n + 1) ss) → length (equations_where is (s ∷ ss)) ≡ length (numbers_where is n (s ∷ ss))
      go true p h = ap length (equations_so s ss p) ∙ ap suc h ∙ ap length (sym (numbers_so n s ss p))
      go false p h = ap length (equations_not s ss p) ∙ h ∙ ap length (sym (numbers_not n s ss p))

pub axiom_numbers : (n : ℕ) (ss : List Sourced) → numbers_of true n ss ≡ numbers_where is_positive n ss
axiom_numbers n [] = refl
axiom_numbers n (s ∷ ss) = ap (λ l. if s.clause.positive then n ∷ l else l) (axiom_numbers (n + 1) ss)

chosen : {A : Type 0} (b : Bool) (x y : A) → (if b then y else x) ≡ (if (if b then false else true) then x else y)
chosen true x y = refl
chosen false x y = refl

pub goal_numbers : (n : ℕ) (ss : List Sourced) → numbers_of false n ss ≡ numbers_where is_negative n ss
goal_numbers n [] = refl
goal_numbers n (s ∷ ss) =
    ap (λ l. if s.clause.positive then l else n ∷ l) (goal_numbers (n + 1) ss) ∙ chosen s.clause.positive (n ∷ numbers_where is_negative (n + 1) ss) (numbers_where is_negative (n + 1) ss)

axioms_are : (ss : List Sourced) → equations_where is_positive ss ≡ axioms_of ss
axioms_are [] = refl
axioms_are (s ∷ ss) = ap (λ l. if s.clause.positive then equation_of s.clause ∷ l else l) (axioms_are ss)

goals_are : (ss : List Sourced) → equations_where is_negative ss ≡ goals_of ss
goals_are [] = refl
goals_are (s ∷ ss) = sym (chosen s.clause.positive (equation_of s.clause ∷ equations_where is_negative ss) (equations_where is_negative ss)) ∙ ap (λ l. if s.clause.positive then l else equation_of s.clause ∷ l) (goals_are ss)

-- an element of two lists one behind the other, and what stands there in two others, where the first are as long
beside : {A B : Type 0} (xs xs' : List A) (ys ys' : List B) (k : ℕ) (x : A) → length xs ≡ length ys → slice_get (xs ++ xs') k ≡ Some x → ((slice_get xs k ≡ Some x) × (slice_get (ys ++ ys') k ≡ slice_get ys k)) ⊎ ((j : ℕ) × (slice_get xs' j ≡ Some x) × (slice_get (ys ++ ys') k ≡ slice_get ys' j))
beside [] xs' [] ys' k x l e = inr (k, e, refl)
beside [] xs' (y ∷ ys) ys' k x l e = absurd (omega (arith, l))
beside (z ∷ xs) xs' [] ys' k x l e = absurd (omega (arith, l))
beside (z ∷ xs) xs' (y ∷ ys) ys' zero x l e = inl (e, refl)
beside (z ∷ xs) xs' (y ∷ ys) ys' (suc k) x l e = beside xs xs' ys ys' k x (omega (arith, l)) e

length_map : {A B : Type 0} (f : A → B) (xs : List A) → length (map f xs) ≡ length xs
length_map f [] = refl
length_map f (x ∷ xs) = ap suc (length_map f xs)

pub none_of : (is : Sourced → Bool) (ss : List Sourced) (j : ℕ) (s : Sourced) → list_any is ss ≡ false → slice_get ss j ≡ Some s → is s ≡ false
none_of is [] j s e h = absurd cc
none_of is (x ∷ ss) zero s e h = let same : x ≡ s = cc in subst (λ (y : Sourced). is y ≡ false) same (or_parts (is x) (list_any is ss) e).0
none_of is (x ∷ ss) (suc j) s e h = none_of is ss j s (or_parts (is x) (list_any is ss) e).1 h

module _ (problem : Problem) (enc : Encoded) where
  -- what an axiom is: a clause's equation, or one of the encoding's
  pub data IsFrom (k : ℕ) (e : Equation) : Type 0 where
    from_clause : (c : ℕ) (s : Sourced) → slice_get enc.sources k ≡ Some (source.Clause c) → slice_get problem.clauses c ≡ Some s → s.clause.positive ≡ true → equation_of s.clause ≡ e → IsFrom k e
    from_reflexive : (marks : Fresh) → slice_get enc.sources k ≡ Some source.Reflexive → enc.fresh ≡ Some marks → e ≡ reflexive marks → IsFrom k e
    from_goal : (marks : Fresh) (c : ℕ) (s : Sourced) → slice_get enc.sources k ≡ Some (source.Goal c) → enc.fresh ≡ Some marks → slice_get problem.clauses c ≡ Some s → is_open_goal s ≡ true → e ≡ refuted marks (equation_of s.clause) → IsFrom k e

  -- what a goal is: a clause that denies its equation, or the encoding's
  pub data IsAsked (k : ℕ) (e : Equation) : Type 0 where
    asked_by_clause : (c : ℕ) (s : Sourced) → slice_get enc.goal_clauses k ≡ Some (Some c) → slice_get problem.clauses c ≡ Some s → s.clause.positive ≡ false → is_open_goal s ≡ false → equation_of s.clause ≡ e → IsAsked k e
    asked_by_encoding : (marks : Fresh) → slice_get enc.goal_clauses k ≡ Some None → enc.fresh ≡ Some marks → e ≡ last_goal marks → IsAsked k e

  module _ (is : IsEncodingOf problem enc) where
    by_clause : (k : ℕ) (e : Equation) → slice_get (axioms_of problem.clauses) k ≡ Some e → slice_get enc.sources k ≡ slice_get (map source.Clause problem.axioms) k → IsFrom k e
    by_clause k e h at =
        let r = stands is_positive 0 problem.clauses k e (ap (λ l. slice_get l k) (axioms_are problem.clauses) ∙ h) in
        let n : slice_get problem.axioms k ≡ Some (0 + r.number) = ap (λ l. slice_get l k) (is.agrees.axioms ∙ axiom_numbers 0 problem.clauses) ∙ r.numbered in
        from_clause (0 + r.number) r.sourced (at ∙ map-get source.Clause problem.axioms k (0 + r.number) n) (let q : 0 + r.number ≡ r.number = omega arith in subst (λ (j : ℕ). slice_get problem.clauses j ≡ Some r.sourced) (sym q) r.there) r.so r.equation_is

    by_marks : (marks : Fresh) → enc.fresh ≡ Some marks → enc ≡ encoding_of problem (Some marks) → (k j : ℕ) (e : Equation) → slice_get (reflexive marks ∷ map (refuted marks) (equations_where is_open_goal problem.clauses)) j ≡ Some e → slice_get enc.sources k ≡ slice_get (source.Reflexive ∷ map source.Goal (numbers_where is_open_goal 0 problem.clauses)) j → IsFrom k e
    by_marks marks f q k zero e h at = from_reflexive marks at f (let s : Some (reflexive marks) ≡ Some e = h in let t : reflexive marks ≡ e = cc in sym t)
    by_marks marks f q k (suc j) e h at =
        let g = get-map (refuted marks) (equations_where is_open_goal problem.clauses) j e h in
        let r = stands is_open_goal 0 problem.clauses j g.0 g.1 in
        from_goal marks (0 + r.number) r.sourced (at ∙ map-get source.Goal (numbers_where is_open_goal 0 problem.clauses) j (0 + r.number) r.numbered) f
        (let z : 0 + r.number ≡ r.number = omega arith in subst (λ (i : ℕ). slice_get problem.clauses i ≡ Some r.sourced) (sym z) r.there) r.so (sym g.2 ∙ ap (refuted marks) (sym r.equation_is))

    sourced_by : (fresh : Option Fresh) → enc.fresh ≡ fresh → enc ≡ encoding_of problem fresh → (k : ℕ) (e : Equation) → slice_get enc.axioms k ≡ Some e → IsFrom k e
    sourced_by None f q k e h = by_clause k e (ap (λ (x : Encoded). slice_get x.axioms k) (sym q) ∙ h) (ap (λ (x : Encoded). slice_get x.sources k) q)
    sourced_by (Some marks) f q k e h =
        let own = axioms_of problem.clauses in
        let added = reflexive marks ∷ map (refuted marks) (equations_where is_open_goal problem.clauses) in
        let from_own = map source.Clause problem.axioms in
        let from_added = source.Reflexive ∷ map source.Goal (numbers_where is_open_goal 0 problem.clauses) in
        let long : length own ≡ length from_own =
        ap length (sym (axioms_are problem.clauses)) ∙ as_many is_positive 0 problem.clauses ∙ ap length (sym (is.agrees.axioms ∙ axiom_numbers 0 problem.clauses)) ∙ sym (length_map source.Clause problem.axioms) in
        let sources_at : slice_get enc.sources k ≡ slice_get (from_own ++ from_added) k = ap (λ (x : Encoded). slice_get x.sources k) q in
        elim (beside own added from_own from_added k e long (ap (λ (x : Encoded). slice_get x.axioms k) (sym q) ∙ h)) [
          | inl a ↦ by_clause k e a.0 (sources_at ∙ a.1)
          | inr a ↦ by_marks marks f q k a.0 e a.1 (sources_at ∙ a.2)
        ]

    pub axiom_from : (k : ℕ) (e : Equation) → slice_get enc.axioms k ≡ Some e → IsFrom k e
    axiom_from = sourced_by enc.fresh refl is.encodes.1

    negative : (s : Sourced) → is_negative s ≡ true → s.clause.positive ≡ false
    negative s e = go s.clause.positive e
      where
        go : (b : Bool) → (if b then false else true) ≡ true → b ≡ false
        go true e = absurd cc
        go false e = refl

    ground_negative : (s : Sourced) → is_ground_goal s ≡ true → (s.clause.positive ≡ false) × (is_open_goal s ≡ false)
    ground_negative s e = go s.clause.positive (is_open_goal s) e
      where
        go : (a b : Bool) → (if a then false else (if b then false else true)) ≡ true → (a ≡ false) × (b ≡ false)
        go true b e = absurd cc
        go false true e = absurd cc
        go false false e = (refl, refl)

    asked_by : (fresh : Option Fresh) → enc.fresh ≡ fresh → Marks is.table problem (Ok fresh) → enc ≡ encoding_of problem fresh → (k : ℕ) (e : Equation) → slice_get enc.goals k ≡ Some e → IsAsked k e
    asked_by None f m q k e h =
        let r = stands is_negative 0 problem.clauses k e (ap (λ l. slice_get l k) (goals_are problem.clauses) ∙ ap (λ (x : Encoded). slice_get x.goals k) (sym q) ∙ h) in
        let n : slice_get problem.goals k ≡ Some (0 + r.number) = ap (λ l. slice_get l k) (is.agrees.goals ∙ goal_numbers 0 problem.clauses) ∙ r.numbered in
        asked_by_clause (0 + r.number) r.sourced (ap (λ (x : Encoded). slice_get x.goal_clauses k) q ∙ map-get Some problem.goals k (0 + r.number) n)
        (let z : 0 + r.number ≡ r.number = omega arith in subst (λ (j : ℕ). slice_get problem.clauses j ≡ Some r.sourced) (sym z) r.there) (negative r.sourced r.so) (none_of is_open_goal problem.clauses r.number r.sourced m r.there) r.equation_is
    asked_by (Some marks) f m q k e h =
        let own = equations_where is_ground_goal problem.clauses in
        let numbers = numbers_where is_ground_goal 0 problem.clauses in
        let long : length own ≡ length (map Some numbers) = as_many is_ground_goal 0 problem.clauses ∙ sym (length_map Some numbers) in
        let at : slice_get enc.goal_clauses k ≡ slice_get (map Some numbers ++ None ∷ []) k = ap (λ (x : Encoded). slice_get x.goal_clauses k) q in
        elim (beside own (last_goal marks ∷ []) (map Some numbers) (None ∷ []) k e long (ap (λ (x : Encoded). slice_get x.goals k) (sym q) ∙ h)) [
          | inl a ↦
              let r = stands is_ground_goal 0 problem.clauses k e a.0 in
              let g = ground_negative r.sourced r.so in
              asked_by_clause (0 + r.number) r.sourced (at ∙ a.1 ∙ map-get Some numbers k (0 + r.number) r.numbered)
              (let z : 0 + r.number ≡ r.number = omega arith in subst (λ (j : ℕ). slice_get problem.clauses j ≡ Some r.sourced) (sym z) r.there) g.0 g.1 r.equation_is
          | inr a ↦ last a.0 a.1 (at ∙ a.2)
        ]
      where
        last : (j : ℕ) → slice_get (last_goal marks ∷ []) j ≡ Some e → slice_get enc.goal_clauses k ≡ slice_get (None ∷ []) j → IsAsked k e
        last zero h at = asked_by_encoding marks at f (let s : Some (last_goal marks) ≡ Some e = h in let t : last_goal marks ≡ e = cc in sym t)
        last (suc j) h at = absurd cc

    pub goal_asked : (k : ℕ) (e : Equation) → slice_get enc.goals k ≡ Some e → IsAsked k e
    goal_asked = asked_by enc.fresh refl is.encodes.0 is.encodes.1
