-- What right lines say follows from the premises, so a refutation shows that a goal follows from the axioms.
use Rattle.std.proofs.Common.{◌≡◌, ℕ, zero, suc, ◌<◌, ◌⊎◌, inl, inr, Bool, true, false, if◌then◌else◌, List, [], ◌∷◌, length, map, slice_get, Option, Some, None, option_and_then, Result, Ok, Err, refl, sym, ap₂, ◌∙◌, subst, arith}
use Rattle.uc_term.specs.declared.fresh.Fresh.{Fresh}
use Rattle.uc_term.specs.declared.equation.Equation.{Equation}
use Rattle.uc_term.specs.Tree.{Tree, var, app, Trees, none, more, apply, apply_all}
use Rattle.uc_term.specs.Path.{nth, change, at_position, put_position}
use Rattle.uc_term.specs.Conversion.{Conv, SomeFollows}
use Rattle.uc_term.specs.Encoding.{Lacks, AllLack, LackAll, yes_term, no_term, pair_term, reflexive, refuted}
use Rattle.uc_term.proofs.Gets.{get-append_left, get-append_right, map-get}
use Rattle.uc_term.proofs.Conversion.{AllConv, no_conv, one_conv, Conv-refl, Conv-trans, Conv-sym, Conv-turn, Conv-apply, Conv-app, equation_turn}
use Rattle.uc_term.proofs.Encoding.{none_added, goal_follows}
use Rattle.uc_clause.specs.declared.clause.Name.{Name}
use Rattle.uc_clause.specs.declared.clause.Sourced.{Sourced}
use Rattle.uc_check.specs.declared.proof.Line.{Line}
use Rattle.uc_check.specs.declared.proof.LineStep.{LineStep}
use Rattle.uc_check.specs.declared.proof.LineSource.{LineSource}
use Rattle.uc_check.specs.declared.proof.LineSource.TheVariants.{File, Chain, Reflexive, EncodeGoal, Refute}
use Rattle.uc_check.specs.Clauses.{equation_of, axioms_of, goals_of, premises_of, AreFresh, HasGoalIfEncoded}
use Rattle.uc_check.specs.Variants.{renamed}
use Rattle.uc_check.specs.Replacements.{IsRefutation, from_side, to_side, IsReplacement, Leads}
use Rattle.uc_check.specs.Tests.{Test, passes}
use Rattle.uc_check.specs.Lines.{IsClause, IsFile, IsChain, AreEarlier, ReadsReflexive, ReadsGoal, RefutesGround, RefutesEncoded, EndsRight, Tested}
use Rattle.uc_check.specs.declared.checker.Cause.{Cause}
use Rattle.uc_check.specs.declared.checker.Checked.{Checked}
use Rattle.uc_check.specs.declared.checker.Checked.TheVariants.{Accepted}
use Rattle.uc_check.specs.Checks.{AreRightBefore, EndsInRefutation, IsChecked, accepted}

-- the clauses' equations stand in the lists of axioms and of goals
pub axiom_in : (clauses : List Sourced) (i : ℕ) (s : Sourced) → slice_get clauses i ≡ Some s → s.clause.positive ≡ true → (j : ℕ) × (slice_get (axioms_of clauses) j ≡ Some (equation_of s.clause))
axiom_in [] i s e p = absurd cc
axiom_in (c ∷ cs) zero s e p = let same : c ≡ s = cc in (0, rw (same, p) refl)
axiom_in (c ∷ cs) (suc i) s e p = let r = axiom_in cs i s e p in go c.clause.positive r
  where
    go : (b : Bool) → (j : ℕ) × (slice_get (axioms_of cs) j ≡ Some (equation_of s.clause)) → (j : ℕ) × (slice_get (if b then equation_of c.clause ∷ axioms_of cs else axioms_of cs) j ≡ Some (equation_of s.clause))
    go true r = (suc r.0, r.1)
    go false r = r

pub goal_in : (clauses : List Sourced) (i : ℕ) (s : Sourced) → slice_get clauses i ≡ Some s → s.clause.positive ≡ false → (j : ℕ) × (slice_get (goals_of clauses) j ≡ Some (equation_of s.clause))
goal_in [] i s e p = absurd cc
goal_in (c ∷ cs) zero s e p = let same : c ≡ s = cc in (0, rw (same, p) refl)
goal_in (c ∷ cs) (suc i) s e p = let r = goal_in cs i s e p in go c.clause.positive r
  where
    go : (b : Bool) → (j : ℕ) × (slice_get (goals_of cs) j ≡ Some (equation_of s.clause)) → (j : ℕ) × (slice_get (if b then goals_of cs else equation_of c.clause ∷ goals_of cs) j ≡ Some (equation_of s.clause))
    go true r = r
    go false r = (suc r.0, r.1)

-- and each equation there is a clause's
axiom_from : (clauses : List Sourced) (j : ℕ) (e : Equation) → slice_get (axioms_of clauses) j ≡ Some e → (i : ℕ) × (s : Sourced) × (slice_get clauses i ≡ Some s) × (equation_of s.clause ≡ e)
axiom_from [] j e h = absurd cc
axiom_from (c ∷ cs) j e h = go (λ i x. axiom_from cs i e x) c.clause.positive j h
  where
    later : (i : ℕ) × (s : Sourced) × (slice_get cs i ≡ Some s) × (equation_of s.clause ≡ e) → (i : ℕ) × (s : Sourced) × (slice_get (c ∷ cs) i ≡ Some s) × (equation_of s.clause ≡ e)
    later r = (suc r.0, r.1, r.2, r.3)

    go : ((j : ℕ) → slice_get (axioms_of cs) j ≡ Some e → ((i : ℕ) × (s : Sourced) × (slice_get cs i ≡ Some s) × (equation_of s.clause ≡ e))) → (b : Bool) (j : ℕ) → slice_get (if b then equation_of c.clause ∷ axioms_of cs else axioms_of cs) j ≡ Some e → (i : ℕ) × (s : Sourced) × (slice_get (c ∷ cs) i ≡ Some s) × (equation_of s.clause ≡ e)
    go rec true zero h = (0, c, refl, cc)
    go rec true (suc j) h = later (rec j h)
    go rec false j h = later (rec j h)

goal_from : (clauses : List Sourced) (j : ℕ) (e : Equation) → slice_get (goals_of clauses) j ≡ Some e → (i : ℕ) × (s : Sourced) × (slice_get clauses i ≡ Some s) × (equation_of s.clause ≡ e)
goal_from [] j e h = absurd cc
goal_from (c ∷ cs) j e h = go (λ i x. goal_from cs i e x) c.clause.positive j h
  where
    later : (i : ℕ) × (s : Sourced) × (slice_get cs i ≡ Some s) × (equation_of s.clause ≡ e) → (i : ℕ) × (s : Sourced) × (slice_get (c ∷ cs) i ≡ Some s) × (equation_of s.clause ≡ e)
    later r = (suc r.0, r.1, r.2, r.3)

    go : ((j : ℕ) → slice_get (goals_of cs) j ≡ Some e → ((i : ℕ) × (s : Sourced) × (slice_get cs i ≡ Some s) × (equation_of s.clause ≡ e))) → (b : Bool) (j : ℕ) → slice_get (if b then goals_of cs else equation_of c.clause ∷ goals_of cs) j ≡ Some e → (i : ℕ) × (s : Sourced) × (slice_get (c ∷ cs) i ≡ Some s) × (equation_of s.clause ≡ e)
    go rec true j h = later (rec j h)
    go rec false zero h = (0, c, refl, cc)
    go rec false (suc j) h = later (rec j h)

-- what passes all tests passes the first, and those behind it
passed : {P : Type 0} {cause : Cause} {behind : Option Cause → Type 0} → Test P (Some cause) behind None → P × behind None
passed (passes p x) = (p, x)

stepped : {P : Type 0} {cause : Cause} {behind : Result Tree Cause → Type 0} {end : Tree} → Test P (Err cause) behind (Ok end) → P × behind (Ok end)
stepped (passes p x) = (p, x)

-- a conversion of a subterm is one of the term
module _ (es : List Equation) where
  all_but : (ts : Trees) (i : ℕ) (a : Tree) (g : Tree → Tree) → nth ts i ≡ Some a → Conv es a (g a) → AllConv es ts (change g ts i)
  all_but none i a g e c = absurd cc
  all_but (more t ts) zero a g e c = let same : a ≡ t = cc in one_conv (subst (λ (x : Tree). Conv es x (g x)) same c) (all_same ts)
    where
      all_same : (ts : Trees) → AllConv es ts ts
      all_same none = no_conv
      all_same (more t ts) = one_conv (Conv-refl es t) (all_same ts)
  all_but (more t ts) (suc i) a g e c = one_conv (Conv-refl es t) (all_but ts i a g e c)

  go_on : (p : List ℕ) (o : Option Tree) (u : Tree) → option_and_then (λ v. at_position v p) o ≡ Some u → (a : Tree) × (o ≡ Some a) × (at_position a p ≡ Some u)
  go_on p None u e = absurd cc
  go_on p (Some a) u e = (a, refl, e)

  pub conv_within : (p : List ℕ) (t u w : Tree) → at_position t p ≡ Some u → Conv es u w → Conv es t (put_position t p w)
  conv_within [] t u w e c = let same : u ≡ t = cc in subst (λ (x : Tree). Conv es x w) same c
  conv_within (suc i ∷ p) (app f ts) u w e c =
      let s = go_on p (nth ts i) u e in
      Conv-app es f (all_but ts i s.0 (λ a. put_position a p w) s.1 (conv_within p s.0 u w s.2 c))
  conv_within v t u w e c = absurd cc

-- a renaming keeps the encoding's symbols away
module _ (m : Fresh) (ρ : ℕ → ℕ) where
  mutual
    Lacks-renamed : (t : Tree) → Lacks m t → Lacks m (renamed ρ t)
    Lacks-renamed (var x) l = tt
    Lacks-renamed (app f ts) l = (l.0, AllLack-renamed ts l.1)

    AllLack-renamed : (ts : Trees) → AllLack m ts → AllLack m (apply_all (λ x. var (ρ x)) ts)
    AllLack-renamed none l = tt
    AllLack-renamed (more t ts) l = (Lacks-renamed t l.0, AllLack-renamed ts l.1)

axioms_among : (fresh : Option Fresh) (clauses : List Sourced) (i : ℕ) (e : Equation) → slice_get (axioms_of clauses) i ≡ Some e → slice_get (premises_of fresh clauses) i ≡ Some e
axioms_among None clauses i e h = h
axioms_among (Some m) clauses i e h = get-append_left (axioms_of clauses) (reflexive m ∷ map (refuted m) (goals_of clauses)) i e h

added_among : (m : Fresh) (clauses : List Sourced) (i : ℕ) (e : Equation) → slice_get (reflexive m ∷ map (refuted m) (goals_of clauses)) i ≡ Some e → (j : ℕ) × (slice_get (premises_of (Some m) clauses) j ≡ Some e)
added_among m clauses i e h = get-append_right (axioms_of clauses) (reflexive m ∷ map (refuted m) (goals_of clauses)) i e h

module _ (clauses : List Sourced) (fresh : Option Fresh) (lines : List Line) where
  abbrev Es : List Equation
  Es = premises_of fresh clauses

  -- what line k says, where it says an equation, is a conversion
  abbrev Says : ℕ → Type 0
  Says k = (line : Line) → slice_get lines k ≡ Some line → line.positive ≡ true → (IsRefutation line.source → ⊥) → Conv Es line.left line.right

  file_says : (name : Name) (line : Line) → line.positive ≡ true → IsClause clauses name line.positive line.left line.right → Conv Es line.left line.right
  file_says name line p c =
      let at = axiom_in clauses c.number c.sourced c.sourced_is (c.same.polarity ∙ p) in
      let e = equation_of c.sourced.clause in
      let t = equation_turn Es at.0 e (axioms_among fresh clauses at.0 e at.1) (λ x. var (c.same.variants.forth x)) in
      rw (← c.same.variants.left_forth, ← c.same.variants.right_forth) (Conv-turn Es (renamed c.same.variants.forth e.left) (renamed c.same.variants.forth e.right) t)

  turned_says : (b : Bool) (line : Line) → Conv Es line.left line.right → Conv Es (from_side b line) (to_side b line)
  turned_says true line c = c
  turned_says false line c = Conv-sym Es c

  replaces : (k : ℕ) (before : Tree) (step : LineStep) → ((j : ℕ) → j < k → Says j) → step.by < k → IsReplacement lines before step → Conv Es before step.to
  replaces k before step says h r =
      let c = turned_says step.left_to_right r.line (says step.by h r.line r.line_is r.positive r.equation) in
      let d : Conv Es r.part (apply r.σ (to_side step.left_to_right r.line)) = subst (λ (t : Tree). Conv Es t (apply r.σ (to_side step.left_to_right r.line))) r.from_is (Conv-apply Es r.σ c) in
      subst (λ (t : Tree). Conv Es before t) r.to_is (conv_within Es step.path before r.part (apply r.σ (to_side step.left_to_right r.line)) r.part_is d)

  leads_says : (k : ℕ) → ((j : ℕ) → j < k → Says j) → (t end : Tree) (steps : List LineStep) → Leads lines k t steps (Ok end) → Conv Es t end
  leads_says k says t end [] e = let same : end ≡ t = cc in rw same (Conv-refl Es t)
  leads_says k says t end (step ∷ steps) x =
      let earlier = stepped x in
      let replaced = stepped earlier.1 in
      Conv-trans Es (replaces k t step says earlier.0 replaced.0) (leads_says k says step.to end steps replaced.1)

reflexive_conv : (m : Fresh) (clauses : List Sourced) → Conv (premises_of (Some m) clauses) (pair_term m (var 0) (var 0)) (yes_term m)
reflexive_conv m clauses =
    let es = premises_of (Some m) clauses in
    let at = added_among m clauses 0 (reflexive m) refl in
    Conv-turn es (pair_term m (var 0) (var 0)) (yes_term m) (equation_turn es at.0 (reflexive m) at.1 var)

goal_conv : (m : Fresh) (clauses : List Sourced) (i : ℕ) (e : Equation) → slice_get (goals_of clauses) i ≡ Some e → (ρ : ℕ → ℕ) → Conv (premises_of (Some m) clauses) (pair_term m (renamed ρ e.left) (renamed ρ e.right)) (no_term m)
goal_conv m clauses i e h ρ =
    let es = premises_of (Some m) clauses in
    let at = added_among m clauses (suc i) (refuted m e) (map-get (refuted m) (goals_of clauses) i e h) in
    Conv-turn es (pair_term m (renamed ρ e.left) (renamed ρ e.right)) (no_term m) (equation_turn es at.0 (refuted m e) at.1 (λ x. var (ρ x)))

earlier : (k : ℕ) (ps : List ℕ) (p : ℕ) (rest : List ℕ) → ps ≡ p ∷ rest → AreEarlier k ps → p < k
earlier k ps p rest e h = let a : AreEarlier k (p ∷ rest) = subst (AreEarlier k) e h in a.0

later_earlier : (k : ℕ) (ps : List ℕ) (p q : ℕ) → ps ≡ p ∷ q ∷ [] → AreEarlier k ps → q < k
later_earlier k ps p q e h = let a : AreEarlier k (p ∷ q ∷ []) = subst (AreEarlier k) e h in a.1.0

no_chain_refutes : (source : LineSource) → IsChain source → IsRefutation source → ⊥
no_chain_refutes (File name) c r = c
no_chain_refutes (Chain start steps parents) c r = r
no_chain_refutes (Reflexive parents) c r = c
no_chain_refutes (EncodeGoal parents) c r = c
no_chain_refutes (Refute parents) c r = c

module _ (clauses : List Sourced) (fresh : Option Fresh) (lines : List Line) where
  -- a file line that is right has a clause of the problem
  file_clause : (k : ℕ) (line : Line) (source : LineSource) → Tested clauses fresh lines k line source None → IsFile source → (name : Name) × IsClause clauses name line.positive line.left line.right
  file_clause k line (File name) x f = (name, (passed x).0)
  file_clause k line source x f = absurd f

  abbrev RightBefore : ℕ → Type 0
  RightBefore k = AreRightBefore clauses fresh lines k

  abbrev SaysBefore : ℕ → Type 0
  SaysBefore k = (j : ℕ) → j < k → Says clauses fresh lines j

  reflexive_says : (parents : List ℕ) (line : Line) → ReadsReflexive fresh parents line → Conv (premises_of fresh clauses) line.left line.right
  reflexive_says parents line r =
      let c = reflexive_conv r.marks clauses in
      let d : Conv (premises_of (Some r.marks) clauses) line.left line.right = rw (r.left_is, r.right_is) c in
      subst (λ (f : Option Fresh). Conv (premises_of f clauses) line.left line.right) (sym r.marks_are) d

  goal_says : (k : ℕ) (parents : List ℕ) (line : Line) → RightBefore k → AreEarlier k parents → ReadsGoal fresh lines parents line → Conv (premises_of fresh clauses) line.left line.right
  goal_says k parents line before e r =
      let c = file_clause r.parent r.goal r.goal.source (before r.parent (earlier k parents r.parent [] r.parents_are e) r.goal r.goal_is) r.reads.denial.0 in
      let s = c.1.sourced.clause in
      let at = goal_in clauses c.1.number c.1.sourced c.1.sourced_is (c.1.same.polarity ∙ r.reads.denial.1) in
      let es = premises_of (Some r.marks) clauses in
      let one = goal_conv r.marks clauses at.0 (equation_of s) at.1 c.1.same.variants.forth in
      let two : Conv es (pair_term r.marks r.goal.left r.goal.right) (no_term r.marks) = subst (λ (t : Tree). Conv es t (no_term r.marks)) (ap₂ (pair_term r.marks) c.1.same.variants.left_forth c.1.same.variants.right_forth) one in
      let three = Conv-apply es (λ x. var (r.reads.variants.forth x)) two in
      let four : Conv es line.left line.right = rw (← r.reads.variants.left_forth, ← r.reads.variants.right_forth) three in
      subst (λ (f : Option Fresh). Conv (premises_of f clauses) line.left line.right) (sym r.marks_are) four

  by_source : (k : ℕ) (line : Line) (source : LineSource) → RightBefore k → SaysBefore k → Tested clauses fresh lines k line source None → line.positive ≡ true → (IsRefutation source → ⊥) → Conv (premises_of fresh clauses) line.left line.right
  by_source k line (File name) before says x p n = file_says clauses fresh lines name line p (passed x).0
  by_source k line (Chain start steps parents) before says x p n = chain_says (passed x).1.end (passed x).1.leads (passed x).1.ends
    where
      chain_says : (end : Result Tree Cause) → Leads lines k start steps end → EndsRight clauses fresh lines k line steps parents end None → Conv (premises_of fresh clauses) line.left line.right
      chain_says (Ok end) l e = let c = leads_says clauses fresh lines k says start end steps l in rw (← (passed x).0, ← (passed e).0) c
      chain_says (Err cause) l e = absurd cc
  by_source k line (Reflexive parents) before says x p n = reflexive_says parents line (passed (passed x).1).0
  by_source k line (EncodeGoal parents) before says x p n = goal_says k parents line before (passed x).0 (passed (passed x).1).0
  by_source k line (Refute parents) before says x p n = absurd (n tt)

  pub says_all : (n : ℕ) → RightBefore n → SaysBefore n
  says_all zero right k h = absurd (omega arith)
  says_all (suc n) right k h = go before (says_all n (λ j i. right j (omega arith)))
    where
      before : (k < n) ⊎ (n ≡ k)
      before = grind arith

      go : (k < n) ⊎ (n ≡ k) → SaysBefore n → Says clauses fresh lines k
      go (inl l) says = says k l
      go (inr e) says = subst (Says clauses fresh lines) e (λ line at p not. by_source n line line.source (λ j i. right j (omega arith)) says (right n (omega arith) line at) p not)

axioms_lack : (m : Fresh) (clauses : List Sourced) → AreFresh (Some m) clauses → LackAll m (axioms_of clauses)
axioms_lack m clauses are j e h =
    let r = axiom_from clauses j e h in
    let l = are.1 r.0 r.1 r.2 in
    subst (λ (d : Equation). Lacks m d.left × Lacks m d.right) r.3 l

goals_lack : (m : Fresh) (clauses : List Sourced) → AreFresh (Some m) clauses → LackAll m (goals_of clauses)
goals_lack m clauses are j e h =
    let r = goal_from clauses j e h in
    let l = are.1 r.0 r.1 r.2 in
    subst (λ (d : Equation). Lacks m d.left × Lacks m d.right) r.3 l

-- what the premises make of a clause's sides, renamed, the axioms alone make of them
without_encoding : (fresh : Option Fresh) (clauses : List Sourced) → AreFresh fresh clauses → (i : ℕ) (s : Sourced) → slice_get clauses i ≡ Some s → (ρ : ℕ → ℕ) → Conv (premises_of fresh clauses) (renamed ρ s.clause.left) (renamed ρ s.clause.right) → Conv (axioms_of clauses) (renamed ρ s.clause.left) (renamed ρ s.clause.right)
without_encoding None clauses are i s e ρ c = c
without_encoding (Some m) clauses are i s e ρ c =
    let l = are.1 i s e in
    none_added m (axioms_of clauses) (goals_of clauses) are.0 (axioms_lack m clauses are) (goals_lack m clauses are) (renamed ρ s.clause.left) (renamed ρ s.clause.right) (Lacks-renamed m ρ s.clause.left l.0) (Lacks-renamed m ρ s.clause.right l.1) c

module _ (clauses : List Sourced) (fresh : Option Fresh) (lines : List Line) (are : AreFresh fresh clauses) (has : HasGoalIfEncoded fresh clauses) where
  abbrev Aim : Type 0
  Aim = SomeFollows (axioms_of clauses) (goals_of clauses)

  ground_follows : (k : ℕ) (parents : List ℕ) → AreRightBefore clauses fresh lines k → AreEarlier k parents → RefutesGround lines parents → Aim
  ground_follows k parents before e r =
      let first = earlier k parents r.first (r.second ∷ []) r.parents_are e in
      let second = later_earlier k parents r.first r.second r.parents_are e in
      let c = file_clause clauses fresh lines r.first r.goal r.goal.source (before r.first first r.goal r.goal_is) r.shows.denial.0 in
      let s = c.1.sourced.clause in
      let ρ = c.1.same.variants.forth in
      let at = goal_in clauses c.1.number c.1.sourced c.1.sourced_is (c.1.same.polarity ∙ r.shows.denial.1) in
      let says = says_all clauses fresh lines k before r.second second r.chain r.chain_is r.shows.derived.1 (no_chain_refutes r.chain.source r.shows.derived.0) in
      let sides : Conv (premises_of fresh clauses) (renamed ρ s.left) (renamed ρ s.right) = rw (c.1.same.variants.left_forth, c.1.same.variants.right_forth, ← r.shows.left_same, ← r.shows.right_same) says in
      record { number = at.0; goal = equation_of s; goal_is = at.1; follows = record { σ = λ x. var (ρ x); conversion = without_encoding fresh clauses are c.1.number c.1.sourced c.1.sourced_is ρ sides } }

  encoded_follows : (m : Fresh) → fresh ≡ Some m → Conv (premises_of fresh clauses) (yes_term m) (no_term m) → Aim
  encoded_follows m e c =
      let are' : AreFresh (Some m) clauses = subst (λ (f : Option Fresh). AreFresh f clauses) e are in
      let has' : HasGoalIfEncoded (Some m) clauses = subst (λ (f : Option Fresh). HasGoalIfEncoded f clauses) e has in
      let c' : Conv (premises_of (Some m) clauses) (yes_term m) (no_term m) = subst (λ (f : Option Fresh). Conv (premises_of f clauses) (yes_term m) (no_term m)) e c in
      goal_follows m (axioms_of clauses) (goals_of clauses) are'.0 (axioms_lack m clauses are') (goals_lack m clauses are') has' c'

  refuted_follows : (k : ℕ) (line : Line) (source : LineSource) → AreRightBefore clauses fresh lines k → Tested clauses fresh lines k line source None → IsRefutation source → Aim
  refuted_follows k line (Refute parents) before x r = shown (passed x).0 (passed (passed x).1).0
    where
      shown : AreEarlier k parents → RefutesGround lines parents ⊎ RefutesEncoded fresh lines parents → Aim
      shown e (inl g) = ground_follows k parents before e g
      shown e (inr g) =
          let says = says_all clauses fresh lines k before g.parent (earlier k parents g.parent [] g.parents_are e) g.chain g.chain_is g.shows.derived.1 (no_chain_refutes g.chain.source g.shows.derived.0) in
          encoded_follows g.marks g.marks_are (rw (← g.shows.left_is, ← g.shows.right_is) says)
  refuted_follows k line source before x r = absurd r

  pub goal_shown : AreRightBefore clauses fresh lines (length lines) → EndsInRefutation lines → Aim
  goal_shown right end =
      let inside : end.last < length lines = let l = end.last_is in omega arith in
      refuted_follows end.last end.line end.line.source (λ j h. right j (let l = end.last_is in omega arith)) (right end.last inside end.line end.line_is) end.refutes

-- an answer that says accepted has found a goal that follows
pub accepted_follows : (clauses : List Sourced) (fresh : Option Fresh) (lines : List Line) → AreFresh fresh clauses → HasGoalIfEncoded fresh clauses → (answer : Checked) → IsChecked clauses fresh lines answer → answer ≡ Accepted → SomeFollows (axioms_of clauses) (goals_of clauses)
accepted_follows clauses fresh lines are has _ (accepted right end) e = goal_shown clauses fresh lines are has right end
accepted_follows clauses fresh lines are has v w e = absurd cc
