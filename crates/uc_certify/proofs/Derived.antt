-- What right lines of a derivation say follows from the axioms of the encoded problem.
use Rattle.std.proofs.Common.{◌≡◌, ℕ, zero, suc, ◌<◌, ◌⊎◌, inl, inr, Bool, true, false, ◌||◌, if◌then◌else◌, List, [], ◌∷◌, length, map, slice_get, Option, Some, None, Result, Ok, Err, refl, sym, ap, ap₂, ◌∙◌, subst, arith}
use Rattle.uc_term.specs.declared.fresh.Fresh.{Fresh}
use Rattle.uc_term.specs.declared.equation.Equation.{Equation}
use Rattle.uc_term.specs.Tree.{Tree, var, app, Trees, none, more, apply, apply_all}
use Rattle.uc_term.specs.Conversion.{Conv}
use Rattle.uc_term.specs.Variables.{has_variable, any_has_variable}
use Rattle.uc_term.specs.Encoding.{yes_term, no_term, pair_term, reflexive, refuted, encoded}
use Rattle.uc_term.proofs.Gets.{get-append_left, get-append_right, map-get}
use Rattle.uc_term.proofs.Conversion.{Conv-refl, Conv-trans, Conv-sym, Conv-turn, Conv-apply, equation_turn}
use Rattle.uc_clause.specs.declared.clause.Name.{Name}
use Rattle.uc_clause.specs.declared.clause.Sourced.{Sourced}
use Rattle.uc_check.specs.declared.proof.Line.{Line}
use Rattle.uc_check.specs.declared.proof.LineStep.{LineStep}
use Rattle.uc_check.specs.declared.proof.LineSource.{LineSource}
use Rattle.uc_check.specs.declared.proof.LineSource.TheVariants.{File, Chain, Reflexive, EncodeGoal, Refute}
use Rattle.uc_check.specs.declared.checker.Cause.{Cause}
use Rattle.uc_check.specs.Clauses.{equation_of, axioms_of}
use Rattle.uc_check.specs.Variants.{renamed}
use Rattle.uc_check.specs.Replacements.{IsRefutation, from_side, to_side, IsReplacement, Leads}
use Rattle.uc_check.specs.Tests.{Test, passes}
use Rattle.uc_check.specs.Lines.{IsClause, IsFile, AreEarlier, ReadsReflexive, ReadsGoal, EndsRight, Tested}
use Rattle.uc_check.specs.Checks.{AreRightBefore}
use Rattle.uc_check.proofs.Sound.{axiom_in, conv_within}
use Rattle.uc_problem.specs.Marks.{is_open_goal}
use Rattle.uc_problem.specs.Encodes.{equations_where}

-- the axioms of the encoded problem: those of the clauses, and where it is encoded, eq(X,X) = true and its goals with a variable as
-- equations
abbrev pub premises : Option Fresh → List Sourced → List Equation
premises None clauses = axioms_of clauses
premises (Some m) clauses = encoded m (axioms_of clauses) (equations_where is_open_goal clauses)

-- a goal with a variable stands in the list of these
open_in : (clauses : List Sourced) (i : ℕ) (s : Sourced) → slice_get clauses i ≡ Some s → is_open_goal s ≡ true → (j : ℕ) × (slice_get (equations_where is_open_goal clauses) j ≡ Some (equation_of s.clause))
open_in [] i s e p = absurd cc
open_in (c ∷ cs) zero s e p = let same : c ≡ s = cc in (0, rw (same, p) refl)
open_in (c ∷ cs) (suc i) s e p = let r = open_in cs i s e p in go (is_open_goal c) r
  where
    go : (b : Bool) → (j : ℕ) × (slice_get (equations_where is_open_goal cs) j ≡ Some (equation_of s.clause)) → (j : ℕ) × (slice_get (if b then equation_of c.clause ∷ equations_where is_open_goal cs else equations_where is_open_goal cs) j ≡ Some (equation_of s.clause))
    go true r = (suc r.0, r.1)
    go false r = r

-- a renaming keeps whether there are variables
module _ (ρ : ℕ → ℕ) where
  mutual
    has_renamed : (t : Tree) → has_variable (renamed ρ t) ≡ has_variable t
    has_renamed (var x) = refl
    has_renamed (app f ts) = any_renamed ts

    any_renamed : (ts : Trees) → any_has_variable (apply_all (λ x. var (ρ x)) ts) ≡ any_has_variable ts
    any_renamed none = refl
    any_renamed (more t ts) = ap₂ (λ a b. a || b) (has_renamed t) (any_renamed ts)

-- what passes all tests passes the first, and those behind it
passed : {P : Type 0} {cause : Cause} {behind : Option Cause → Type 0} → Test P (Some cause) behind None → P × behind None
passed (passes p x) = (p, x)

stepped : {P : Type 0} {cause : Cause} {behind : Result Tree Cause → Type 0} {end : Tree} → Test P (Err cause) behind (Ok end) → P × behind (Ok end)
stepped (passes p x) = (p, x)

axioms_among : (fresh : Option Fresh) (clauses : List Sourced) (i : ℕ) (e : Equation) → slice_get (axioms_of clauses) i ≡ Some e → slice_get (premises fresh clauses) i ≡ Some e
axioms_among None clauses i e h = h
axioms_among (Some m) clauses i e h = get-append_left (axioms_of clauses) (reflexive m ∷ map (refuted m) (equations_where is_open_goal clauses)) i e h

added_among : (m : Fresh) (clauses : List Sourced) (i : ℕ) (e : Equation) → slice_get (reflexive m ∷ map (refuted m) (equations_where is_open_goal clauses)) i ≡ Some e → (j : ℕ) × (slice_get (premises (Some m) clauses) j ≡ Some e)
added_among m clauses i e h = get-append_right (axioms_of clauses) (reflexive m ∷ map (refuted m) (equations_where is_open_goal clauses)) i e h

reflexive_conv : (m : Fresh) (clauses : List Sourced) → Conv (premises (Some m) clauses) (pair_term m (var 0) (var 0)) (yes_term m)
reflexive_conv m clauses =
    let es = premises (Some m) clauses in
    let at = added_among m clauses 0 (reflexive m) refl in
    Conv-turn es (pair_term m (var 0) (var 0)) (yes_term m) (equation_turn es at.0 (reflexive m) at.1 var)

goal_conv : (m : Fresh) (clauses : List Sourced) (i : ℕ) (e : Equation) → slice_get (equations_where is_open_goal clauses) i ≡ Some e → (ρ : ℕ → ℕ) → Conv (premises (Some m) clauses) (pair_term m (renamed ρ e.left) (renamed ρ e.right)) (no_term m)
goal_conv m clauses i e h ρ =
    let es = premises (Some m) clauses in
    let at = added_among m clauses (suc i) (refuted m e) (map-get (refuted m) (equations_where is_open_goal clauses) i e h) in
    Conv-turn es (pair_term m (renamed ρ e.left) (renamed ρ e.right)) (no_term m) (equation_turn es at.0 (refuted m e) at.1 (λ x. var (ρ x)))

earlier : (k : ℕ) (ps : List ℕ) (p : ℕ) (rest : List ℕ) → ps ≡ p ∷ rest → AreEarlier k ps → p < k
earlier k ps p rest e h = let a : AreEarlier k (p ∷ rest) = subst (AreEarlier k) e h in a.0

module _ (clauses : List Sourced) (fresh : Option Fresh) (lines : List Line) where
  abbrev Es : List Equation
  Es = premises fresh clauses

  -- what line k says, where it says an equation, is a conversion
  abbrev Says : ℕ → Type 0
  Says k = (line : Line) → slice_get lines k ≡ Some line → line.positive ≡ true → (IsRefutation line.source → ⊥) → Conv Es line.left line.right

  abbrev RightBefore : ℕ → Type 0
  RightBefore k = AreRightBefore clauses fresh lines k

  abbrev SaysBefore : ℕ → Type 0
  SaysBefore k = (j : ℕ) → j < k → Says j

  file_says : (name : Name) (line : Line) → line.positive ≡ true → IsClause clauses name line.positive line.left line.right → Conv Es line.left line.right
  file_says name line p c =
      let at = axiom_in clauses c.number c.sourced c.sourced_is (c.same.polarity ∙ p) in
      let e = equation_of c.sourced.clause in
      let t = equation_turn Es at.0 e (axioms_among fresh clauses at.0 e at.1) (λ x. var (c.same.variants.forth x)) in
      rw (← c.same.variants.left_forth, ← c.same.variants.right_forth) (Conv-turn Es (renamed c.same.variants.forth e.left) (renamed c.same.variants.forth e.right) t)

  turned_says : (b : Bool) (line : Line) → Conv Es line.left line.right → Conv Es (from_side b line) (to_side b line)
  turned_says true line c = c
  turned_says false line c = Conv-sym Es c

  replaces : (k : ℕ) (before : Tree) (step : LineStep) → SaysBefore k → step.by < k → IsReplacement lines before step → Conv Es before step.to
  replaces k before step says h r =
      let c = turned_says step.left_to_right r.line (says step.by h r.line r.line_is r.positive r.equation) in
      let d : Conv Es r.part (apply r.σ (to_side step.left_to_right r.line)) = subst (λ (t : Tree). Conv Es t (apply r.σ (to_side step.left_to_right r.line))) r.from_is (Conv-apply Es r.σ c) in
      subst (λ (t : Tree). Conv Es before t) r.to_is (conv_within Es step.path before r.part (apply r.σ (to_side step.left_to_right r.line)) r.part_is d)

  leads_says : (k : ℕ) → SaysBefore k → (t end : Tree) (steps : List LineStep) → Leads lines k t steps (Ok end) → Conv Es t end
  leads_says k says t end [] e = let same : end ≡ t = cc in rw same (Conv-refl Es t)
  leads_says k says t end (step ∷ steps) x =
      let before = stepped x in
      let replaced = stepped before.1 in
      Conv-trans Es (replaces k t step says before.0 replaced.0) (leads_says k says step.to end steps replaced.1)

  -- a file line that is right has a clause of the problem
  file_clause : (k : ℕ) (line : Line) (source : LineSource) → Tested clauses fresh lines k line source None → IsFile source → (name : Name) × IsClause clauses name line.positive line.left line.right
  file_clause k line (File name) x f = (name, (passed x).0)
  file_clause k line source x f = absurd f

  reflexive_says : (parents : List ℕ) (line : Line) → ReadsReflexive fresh parents line → Conv Es line.left line.right
  reflexive_says parents line r =
      let c = reflexive_conv r.marks clauses in
      let d : Conv (premises (Some r.marks) clauses) line.left line.right = rw (r.left_is, r.right_is) c in
      subst (λ (f : Option Fresh). Conv (premises f clauses) line.left line.right) (sym r.marks_are) d

  open_clause : (s : Sourced) (b : Bool) → b ≡ false → (has_variable s.clause.left || has_variable s.clause.right) ≡ true → s.clause.positive ≡ b → is_open_goal s ≡ true
  open_clause s b e h p = let q : s.clause.positive ≡ false = p ∙ e in rw (q, h) refl

  goal_says : (k : ℕ) (parents : List ℕ) (line : Line) → RightBefore k → AreEarlier k parents → ReadsGoal fresh lines parents line → Conv Es line.left line.right
  goal_says k parents line before e r =
      let c = file_clause r.parent r.goal r.goal.source (before r.parent (earlier k parents r.parent [] r.parents_are e) r.goal r.goal_is) r.reads.denial.0 in
      let s = c.1.sourced.clause in
      let v = c.1.same.variants in
      let left : has_variable r.goal.left ≡ has_variable s.left = ap has_variable (sym v.left_forth) ∙ has_renamed v.forth s.left in
      let right : has_variable r.goal.right ≡ has_variable s.right = ap has_variable (sym v.right_forth) ∙ has_renamed v.forth s.right in
      let has : (has_variable s.left || has_variable s.right) ≡ true = ap₂ (λ a b. a || b) (sym left) (sym right) ∙ r.reads.has_variables in
      let at = open_in clauses c.1.number c.1.sourced c.1.sourced_is (open_clause c.1.sourced r.goal.positive r.reads.denial.1 has c.1.same.polarity) in
      let es = premises (Some r.marks) clauses in
      let one = goal_conv r.marks clauses at.0 (equation_of s) at.1 v.forth in
      let two : Conv es (pair_term r.marks r.goal.left r.goal.right) (no_term r.marks) = subst (λ (t : Tree). Conv es t (no_term r.marks)) (ap₂ (pair_term r.marks) v.left_forth v.right_forth) one in
      let three = Conv-apply es (λ x. var (r.reads.variants.forth x)) two in
      let four : Conv es line.left line.right = rw (← r.reads.variants.left_forth, ← r.reads.variants.right_forth) three in
      subst (λ (f : Option Fresh). Conv (premises f clauses) line.left line.right) (sym r.marks_are) four

  by_source : (k : ℕ) (line : Line) (source : LineSource) → RightBefore k → SaysBefore k → Tested clauses fresh lines k line source None → line.positive ≡ true → (IsRefutation source → ⊥) → Conv Es line.left line.right
  by_source k line (File name) before says x p n = file_says name line p (passed x).0
  by_source k line (Chain start steps parents) before says x p n = chain_says (passed x).1.end (passed x).1.leads (passed x).1.ends
    where
      chain_says : (end : Result Tree Cause) → Leads lines k start steps end → EndsRight clauses fresh lines k line steps parents end None → Conv Es line.left line.right
      chain_says (Ok end) l e = let c = leads_says k says start end steps l in rw (← (passed x).0, ← (passed e).0) c
      chain_says (Err cause) l e = absurd cc
  by_source k line (Reflexive parents) before says x p n = reflexive_says parents line (passed (passed x).1).0
  by_source k line (EncodeGoal parents) before says x p n = goal_says k parents line before (passed x).0 (passed (passed x).1).0
  by_source k line (Refute parents) before says x p n = absurd (n tt)

  says_before : (n : ℕ) → RightBefore n → SaysBefore n
  says_before zero right k h = absurd (omega arith)
  says_before (suc n) right k h = go before (says_before n (λ j i. right j (omega arith)))
    where
      before : (k < n) ⊎ (n ≡ k)
      before = grind arith

      go : (k < n) ⊎ (n ≡ k) → SaysBefore n → Says k
      go (inl l) says = says k l
      go (inr e) says = subst Says e (λ line at p not. by_source n line line.source (λ j i. right j (omega arith)) says (right n (omega arith) line at) p not)

  -- so does what each line says
  pub says_all : RightBefore (length lines) → (k : ℕ) → k < length lines → Says k
  says_all right k h = says_before (length lines) right k h
