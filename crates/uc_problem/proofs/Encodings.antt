-- The encoded problem, as the code makes it.
use Rattle.std.proofs.Common.{◌≡◌, ℕ, suc, ◌+◌, ◌<◌, Bool, true, false, cond, List, [], ◌∷◌, ◌++◌, filter, drop, length, get_or, slice_get, add-one, drop-cons, Option, Some, None, Ok, if◌then◌else◌, refl, append_assoc, sym, ap, ◌∙◌, subst, arith}
use Rattle.std.proofs.lemmas.Option.{slice_get-get_or}
use Rattle.uc_term.specs.Table.{Table, Grows}
use Rattle.uc_term.specs.declared.fresh.Fresh.{Fresh}
use Rattle.uc_clause.specs.declared.clause.Sourced.{Sourced}
use Rattle.uc_check.specs.Clauses.{equation_of, axioms_of, goals_of}
use Rattle.uc_problem.specs.declared.problem.Problem.{Problem}
use Rattle.uc_problem.specs.declared.problem.Encoded.{Encoded}
use Rattle.uc_problem.specs.declared.encoding.Kind.{Kind}
use Rattle.uc_problem.specs.declared.encoding.Kind.TheVariants.{Axiom, Goal, OpenGoal, GroundGoal}
use Rattle.uc_problem.specs.Holds.{numbers_of}
use Rattle.uc_problem.specs.Marks.{IsMarked}
use Rattle.uc_problem.specs.Kinds.{is_of, AreGoals}
use Rattle.uc_problem.specs.Encodes.{equations_where, numbers_where, encoding_of, Encodes, IsEncoded}

-- the equations of the axioms and of the goals
pub axioms_are : (ss : List Sourced) → equations_where (is_of Axiom) ss ≡ axioms_of ss
axioms_are [] = refl
axioms_are (s ∷ ss) = ap (λ l. if s.clause.positive then equation_of s.clause ∷ l else l) (axioms_are ss)

chosen : {A : Type 0} (b : Bool) (x y : A) → (if (if b then false else true) then x else y) ≡ (if b then y else x)
chosen true x y = refl
chosen false x y = refl

pub goals_are : (ss : List Sourced) → equations_where (is_of Goal) ss ≡ goals_of ss
goals_are [] = refl
goals_are (s ∷ ss) = chosen s.clause.positive (equation_of s.clause ∷ equations_where (is_of Goal) ss) (equations_where (is_of Goal) ss) ∙ ap (λ l. if s.clause.positive then l else equation_of s.clause ∷ l) (goals_are ss)

-- an axiom is no goal of any kind
pub only_goals : (kind : Kind) → AreGoals kind → (s : Sourced) → s.clause.positive ≡ true → is_of kind s ≡ false
only_goals Axiom h s e = absurd h
only_goals Goal h s e = absurd h
only_goals OpenGoal h s e = rw e refl
only_goals GroundGoal h s e = rw e refl

-- whether the clause of this number is so
abbrev pub is_or : (Sourced → Bool) → Option Sourced → Bool
is_or is None = false
is_or is (Some s) = is s

abbrev pub is_at : (Sourced → Bool) → List Sourced → ℕ → Bool
is_at is clauses n = is_or is (slice_get clauses n)

goal_numbered : (s : Sourced) (ss : List Sourced) (n : ℕ) → s.clause.positive ≡ false → numbers_of false n (s ∷ ss) ≡ n ∷ numbers_of false (n + 1) ss
goal_numbered s ss n e = rw e refl

axiom_passed : (s : Sourced) (ss : List Sourced) (n : ℕ) → s.clause.positive ≡ true → numbers_of false n (s ∷ ss) ≡ numbers_of false (n + 1) ss
axiom_passed s ss n e = rw e refl

alike : (a b : Bool) (n : ℕ) (xs ys : List ℕ) → a ≡ b → xs ≡ ys → cond a (n ∷ xs) xs ≡ cond b (n ∷ ys) ys
alike a b n xs ys e f = rw (e, f) refl

not_there : (b : Bool) (xs ys : List ℕ) → b ≡ false → ys ≡ cond b xs ys
not_there true xs ys e = absurd cc
not_there false xs ys e = refl

module _ (is : Sourced → Bool) (only : (s : Sourced) → s.clause.positive ≡ true → is s ≡ false) where
  -- the goals that are so, among the numbers of all goals
  pub numbers_from : (all ss : List Sourced) (n : ℕ) → ((j : ℕ) (s : Sourced) → slice_get ss j ≡ Some s → slice_get all (n + j) ≡ Some s) → filter (is_at is all) (numbers_of false n ss) ≡ numbers_where is n ss
  numbers_from all [] n at = refl
  numbers_from all (s ∷ ss) n at = go s.clause.positive refl (numbers_from all ss (n + 1) (λ j x e. let q : n + suc j ≡ n + 1 + j = omega arith in subst (λ (k : ℕ). slice_get all k ≡ Some x) q (at (suc j) x e)))
    where
      here : is_at is all n ≡ is s
      here = let q : n + 0 ≡ n = omega arith in ap (is_or is) (subst (λ (k : ℕ). slice_get all k ≡ Some s) q (at 0 s refl))

      go : (b : Bool) → s.clause.positive ≡ b → filter (is_at is all) (numbers_of false (n + 1) ss) ≡ numbers_where is (n + 1) ss → filter (is_at is all) (numbers_of false n (s ∷ ss)) ≡ numbers_where is n (s ∷ ss)
      go true p later = ap (filter (is_at is all)) (axiom_passed s ss n p) ∙ later ∙ not_there (is s) (n ∷ numbers_where is (n + 1) ss) (numbers_where is (n + 1) ss) (only s p)
      go false p later = ap (filter (is_at is all)) (goal_numbered s ss n p) ∙ alike (is_at is all n) (is s) n (filter (is_at is all) (numbers_of false (n + 1) ss)) (numbers_where is (n + 1) ss) here later

  pub numbers_are : (ss : List Sourced) (goals : List ℕ) → goals ≡ numbers_of false 0 ss → filter (is_at is ss) goals ≡ numbers_where is 0 ss
  numbers_are ss goals e = ap (filter (is_at is ss)) e ∙ numbers_from ss ss 0 (λ j s q. let k : 0 + j ≡ j = omega arith in subst (λ (m : ℕ). slice_get ss m ≡ Some s) (sym k) q)

-- the search among the goals
module _ (is : Sourced → Bool) (ss : List Sourced) (goals : List ℕ) (i n d : ℕ) (other s : Sourced) (h : i < length goals) (at : n ≡ get_or goals i d) (within : n < length ss) (found : s ≡ get_or ss n other) where
  rest : drop i goals ≡ n ∷ drop (i + 1) goals
  rest = rw (at, add-one, drop-cons goals i d) refl

  there : is_at is ss n ≡ is s
  there = ap (is_or is) (slice_get-get_or ss n other within ∙ ap Some (sym found))

  first_rest : filter (is_at is ss) (drop i goals) ≡ cond (is s) (n ∷ filter (is_at is ss) (drop (i + 1) goals)) (filter (is_at is ss) (drop (i + 1) goals))
  first_rest = ap (filter (is_at is ss)) rest ∙ ap (λ b. cond b (n ∷ filter (is_at is ss) (drop (i + 1) goals)) (filter (is_at is ss) (drop (i + 1) goals))) there

  kept_here : is s ≡ true → filter (is_at is ss) (drop i goals) ≡ n ∷ filter (is_at is ss) (drop (i + 1) goals)
  kept_here e = first_rest ∙ ap (λ b. cond b (n ∷ filter (is_at is ss) (drop (i + 1) goals)) (filter (is_at is ss) (drop (i + 1) goals))) e

  passed_here : is s ≡ false → filter (is_at is ss) (drop i goals) ≡ filter (is_at is ss) (drop (i + 1) goals)
  passed_here e = first_rest ∙ ap (λ b. cond b (n ∷ filter (is_at is ss) (drop (i + 1) goals)) (filter (is_at is ss) (drop (i + 1) goals))) e

  pub push_here : (numbers pushed : List ℕ) → is s ≡ true → pushed ≡ numbers ++ n ∷ [] → numbers ++ filter (is_at is ss) (drop i goals) ≡ filter (is_at is ss) goals → pushed ++ filter (is_at is ss) (drop (i + 1) goals) ≡ filter (is_at is ss) goals
  push_here numbers pushed e q kept = rw q (append_assoc numbers (n ∷ []) (filter (is_at is ss) (drop (i + 1) goals)) ∙ ap (λ l. numbers ++ l) (sym (kept_here e)) ∙ kept)

  pub skip_here : (numbers same : List ℕ) → is s ≡ false → same ≡ numbers → numbers ++ filter (is_at is ss) (drop i goals) ≡ filter (is_at is ss) goals → same ++ filter (is_at is ss) (drop (i + 1) goals) ≡ filter (is_at is ss) goals
  skip_here numbers same e q kept = rw q (ap (λ l. numbers ++ l) (sym (passed_here e)) ∙ kept)

-- what was made is the encoding
module _ (table : Table) (problem : Problem) where
  encodes : (T : Table) (fresh : Option Fresh) → IsMarked table problem (Ok fresh) → Grows table T → Encodes T problem (Ok (encoding_of problem fresh))
  encodes T None m g = (m T g, refl)
  encodes T (Some marks) m g = (m T g, refl)

  pub is_encoded : (fresh : Option Fresh) (e : Encoded) → IsMarked table problem (Ok fresh) → e ≡ encoding_of problem fresh → IsEncoded table problem (Ok e)
  is_encoded fresh e m q = λ T g. subst (λ (x : Encoded). Encodes T problem (Ok x)) (sym q) (encodes T fresh m g)
