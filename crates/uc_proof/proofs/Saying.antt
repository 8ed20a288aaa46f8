-- What the line of a part says, by what it is made of.
use Rattle.std.proofs.Common.{◌≡◌, ℕ, zero, suc, ◌<◌, List, [], ◌∷◌, length, map, get_or, slice_get, Option, Some, None, Result, sym, ap, ◌∙◌, subst, arith}
use Rattle.std.specs.Result.{IfOk}
use Rattle.std.proofs.lemmas.Result.{IfOk-weaker}
use Rattle.std.proofs.lemmas.Option.{slice_get-get_or}
use Rattle.uc_term.specs.declared.equation.Equation.{Equation}
use Rattle.uc_clause.specs.declared.clause.Sourced.{Sourced}
use Rattle.uc_check.specs.declared.proof.Line.{Line}
use Rattle.uc_check.specs.declared.proof.LineSource.{LineSource}
use Rattle.uc_check.specs.declared.proof.LineSource.TheVariants.{Reflexive, EncodeGoal}
use Rattle.uc_fact.specs.declared.chain.Chain.{Chain}
use Rattle.uc_fact.specs.declared.fact.Fact.{Fact}
use Rattle.uc_fact.specs.Live.{equation_of}
use Rattle.uc_problem.specs.declared.problem.Problem.{Problem}
use Rattle.uc_problem.specs.declared.problem.Encoded.{Encoded}
use Rattle.uc_problem.specs.declared.problem.Source.{Source}
use Rattle.uc_problem.specs.declared.problem.Source.TheVariants as source
use Rattle.uc_proof.specs.declared.aim.Aim.{Aim}
use Rattle.uc_proof.specs.declared.aim.Aim.TheVariants as aim
use Rattle.uc_proof.specs.declared.part.Part.{Part}
use Rattle.uc_proof.specs.declared.part.Part.TheVariants as part
use Rattle.uc_proof.specs.Written.{clause_line, equation_line, refute_line, Says, says_clause, says_denial, says_reflexive, says_goal, says_fact, says_conclusion, refutes_denied, refutes_encoded}
use Rattle.uc_proof.specs.Making.{IsSourceReady, IsGoalReady, IsChainLine}

pub get_is : {A : Type 0} (xs : List A) (n : ℕ) (x d : A) → slice_get xs n ≡ Some x → get_or xs n d ≡ x
get_is [] n x d e = absurd cc
get_is (y ∷ ys) zero x d e = let q : Some y ≡ Some x = e in cc
get_is (y ∷ ys) (suc n) x d e = get_is ys n x d e

pub mapped_is : {A B : Type 0} (f : A → B) (xs : List A) (n : ℕ) (d : A) (y : B) → slice_get (map f xs) n ≡ Some y → f (get_or xs n d) ≡ y
mapped_is f [] n d y e = absurd cc
mapped_is f (x ∷ xs) zero d y e = let q : Some (f x) ≡ Some y = e in cc
mapped_is f (x ∷ xs) (suc n) d y e = mapped_is f xs n d y e

-- a source and a goal that are ready are there
pub source_inside : (problem : Problem) (plan : List Part) (ss : List Source) (k : ℕ) → IsSourceReady problem plan (slice_get ss k) → k < length ss
source_inside problem plan [] k r = absurd r
source_inside problem plan (s ∷ ss) zero r = omega arith
source_inside problem plan (s ∷ ss) (suc k) r = let l = source_inside problem plan ss k r in omega arith

pub goal_inside : (plan : List Part) (cs : List (Option ℕ)) (k : ℕ) → IsGoalReady plan (slice_get cs k) → k < length cs
goal_inside plan [] k r = absurd r
goal_inside plan (c ∷ cs) zero r = omega arith
goal_inside plan (c ∷ cs) (suc k) r = let l = goal_inside plan cs k r in omega arith

pub source_at : (problem : Problem) (plan : List Part) (ss xs : List Source) (k : ℕ) (d s : Source) → xs ≡ ss → IsSourceReady problem plan (slice_get ss k) → get_or xs k d ≡ s → slice_get ss k ≡ Some s
source_at problem plan ss xs k d s e r q = slice_get-get_or ss k d (source_inside problem plan ss k r) ∙ ap Some (ap (λ (l : List Source). get_or l k d) (sym e) ∙ q)

pub goal_at : (plan : List Part) (cs xs : List (Option ℕ)) (k : ℕ) (d c : Option ℕ) → xs ≡ cs → IsGoalReady plan (slice_get cs k) → get_or xs k d ≡ c → slice_get cs k ≡ Some c
goal_at plan cs xs k d c e r q = slice_get-get_or cs k d (goal_inside plan cs k r) ∙ ap Some (ap (λ (l : List (Option ℕ)). get_or l k d) (sym e) ∙ q)

pub item_is : {A : Type 0} (ss xs : List A) (k : ℕ) (x d : A) → xs ≡ ss → slice_get ss k ≡ Some x → get_or xs k d ≡ x
item_is ss xs k x d e h = ap (λ l. get_or l k d) e ∙ get_is ss k x d h

-- a line with an equation, by its parts
pub as_equation : {E : Type 0} (r : Result Line E) (name : List ℕ) (s other : LineSource) (e same : Equation) → s ≡ other → e ≡ same → IfOk r (λ line. line ≡ equation_line name s e) → IfOk r (λ line. line ≡ equation_line name other same)
as_equation r name s other e same p q h = subst (λ (x : LineSource). IfOk r (λ line. line ≡ equation_line name x same)) p (subst (λ (x : Equation). IfOk r (λ line. line ≡ equation_line name s x)) q h)

pub as_refutation : {E : Type 0} (r : Result Line E) (name list other : List ℕ) → list ≡ other → IfOk r (λ line. line ≡ refute_line name list) → IfOk r (λ line. line ≡ refute_line name other)
as_refutation r name list other p h = subst (λ (x : List ℕ). IfOk r (λ line. line ≡ refute_line name x)) p h

module _ (problem : Problem) (enc : Encoded) (facts : List Fact) (aimed : Aim) (plan : List Part) where
  pub said_so : {E : Type 0} (r : Result Line E) (name other : List ℕ) (p q : Part) → name ≡ other → p ≡ q → IfOk r (Says problem enc facts aimed plan name p) → IfOk r (Says problem enc facts aimed plan other q)
  said_so r name other p q e f h = subst (λ (n : List ℕ). IfOk r (Says problem enc facts aimed plan n q)) e (subst (λ (x : Part). IfOk r (Says problem enc facts aimed plan name x)) f h)

  -- what is known of the line, by an equation
  said_as : {E : Type 0} (r : Result Line E) (name : List ℕ) (p : Part) (line : Line) → Says problem enc facts aimed plan name p line → IfOk r (λ l. l ≡ line) → IfOk r (Says problem enc facts aimed plan name p)
  said_as r name p line s h = IfOk-weaker r (λ l. l ≡ line) (Says problem enc facts aimed plan name p) (λ l e. subst (Says problem enc facts aimed plan name p) (sym e) s) h

  module _ {E : Type 0} (r : Result Line E) (name : List ℕ) where
    pub clause_said : (k c : ℕ) → slice_get enc.sources k ≡ Some (source.Clause c) → (s : Sourced) × (slice_get problem.clauses c ≡ Some s) → ((s : Sourced) → slice_get problem.clauses c ≡ Some s → IfOk r (λ line. line ≡ clause_line name s.clause)) → IfOk r (Says problem enc facts aimed plan name (part.Axiom k))
    clause_said k c at there h = said_as r name (part.Axiom k) (clause_line name there.0.clause) (says_clause at there.1) (h there.0 there.1)

    pub denial_said : (c : ℕ) → (s : Sourced) × (slice_get problem.clauses c ≡ Some s) → ((s : Sourced) → slice_get problem.clauses c ≡ Some s → IfOk r (λ line. line ≡ clause_line name s.clause)) → IfOk r (Says problem enc facts aimed plan name (part.Denial c))
    denial_said c there h = said_as r name (part.Denial c) (clause_line name there.0.clause) (says_denial there.1) (h there.0 there.1)

    pub reflexive_said : (k : ℕ) (e : Equation) → slice_get enc.sources k ≡ Some source.Reflexive → slice_get enc.axioms k ≡ Some e → IfOk r (λ line. line ≡ equation_line name (Reflexive []) e) → IfOk r (Says problem enc facts aimed plan name (part.Axiom k))
    reflexive_said k e at there h = said_as r name (part.Axiom k) (equation_line name (Reflexive []) e) (says_reflexive at there) h

    pub goal_said : (k c denial : ℕ) (e : Equation) → slice_get enc.sources k ≡ Some (source.Goal c) → slice_get enc.axioms k ≡ Some e → slice_get plan denial ≡ Some (part.Denial c) → IfOk r (λ line. line ≡ equation_line name (EncodeGoal (denial ∷ [])) e) → IfOk r (Says problem enc facts aimed plan name (part.Axiom k))
    goal_said k c denial e at there has h = said_as r name (part.Axiom k) (equation_line name (EncodeGoal (denial ∷ [])) e) (says_goal at there has) h

    pub fact_said : (n : ℕ) (fact : Fact) → slice_get facts n ≡ Some fact → IfOk r (IsChainLine plan fact.chain name (equation_of fact)) → IfOk r (Says problem enc facts aimed plan name (part.Fact n))
    fact_said n fact at h =
        IfOk-weaker r (IsChainLine plan fact.chain name (equation_of fact)) (Says problem enc facts aimed plan name (part.Fact n))
        (λ line i. subst (Says problem enc facts aimed plan name (part.Fact n)) (sym (i.line_is ∙ ap (λ (s : LineSource). equation_line name s (equation_of fact)) i.is_source.written_is)) (says_fact at i.is_source.are_steps)) h

    pub conclusion_said : (chain : Chain) (goal : ℕ) (e : Equation) → aimed ≡ aim.Goal chain goal → slice_get enc.goals goal ≡ Some e → IfOk r (IsChainLine plan chain name e) → IfOk r (Says problem enc facts aimed plan name part.Conclusion)
    conclusion_said chain goal e is at h =
        IfOk-weaker r (IsChainLine plan chain name e) (Says problem enc facts aimed plan name part.Conclusion)
        (λ line i. subst (Says problem enc facts aimed plan name part.Conclusion) (sym (i.line_is ∙ ap (λ (s : LineSource). equation_line name s e) i.is_source.written_is)) (says_conclusion is at i.is_source.are_steps)) h

    pub denied_said : (way : Chain) (goal c denial chain : ℕ) → aimed ≡ aim.Goal way goal → slice_get enc.goal_clauses goal ≡ Some (Some c) → slice_get plan denial ≡ Some (part.Denial c) → slice_get plan chain ≡ Some part.Conclusion → IfOk r (λ line. line ≡ refute_line name (denial ∷ chain ∷ [])) → IfOk r (Says problem enc facts aimed plan name part.Refutation)
    denied_said way goal c denial chain is at has last h = said_as r name part.Refutation (refute_line name (denial ∷ chain ∷ [])) (refutes_denied is at has last) h

    pub encoded_said : (way : Chain) (goal chain : ℕ) → aimed ≡ aim.Goal way goal → slice_get enc.goal_clauses goal ≡ Some None → slice_get plan chain ≡ Some part.Conclusion → IfOk r (λ line. line ≡ refute_line name (chain ∷ [])) → IfOk r (Says problem enc facts aimed plan name part.Refutation)
    encoded_said way goal chain is at last h = said_as r name part.Refutation (refute_line name (chain ∷ [])) (refutes_encoded is at last) h
