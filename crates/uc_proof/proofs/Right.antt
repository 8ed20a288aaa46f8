-- All lines of an extracted proof are right, and the last one is a refutation.
use Rattle.std.proofs.Common.{◌≡◌, ℕ, zero, suc, ◌+◌, ◌<◌, ◌||◌, Bool, true, false, List, [], ◌∷◌, ◌++◌, length, map, take, get_or, slice_get, Option, Some, None, Ok, refl, sym, ap, ap₂, ◌∙◌, subst, arith, inl, inr, length-append, append-nil, append_assoc, if◌then◌else◌}
use Rattle.std.proofs.lemmas.Bool.{or_parts}
use Rattle.uc_term.specs.Tree.{Tree, var, apply, subterm}
use Rattle.uc_term.specs.Variables.{variables, firsts, place_of, renumbered_by, has_variable}
use Rattle.uc_term.specs.Path.{put_position}
use Rattle.uc_term.specs.Encoding.{reflexive, refuted, pair_term, no_term}
use Rattle.uc_term.specs.Equations.{side_of, other_side_of}
use Rattle.uc_term.specs.declared.equation.Equation.{Equation}
use Rattle.uc_term.specs.declared.fresh.Fresh.{Fresh}
use Rattle.uc_term.proofs.Terms.{apply-apply, apply-var}
use Rattle.uc_clause.specs.declared.clause.Sourced.{Sourced}
use Rattle.uc_check.specs.declared.proof.Line.{Line}
use Rattle.uc_check.specs.declared.proof.LineStep.{LineStep}
use Rattle.uc_check.specs.declared.proof.LineSource.TheVariants.{Chain as ByChain, Reflexive, EncodeGoal}
use Rattle.uc_check.specs.Variants.{AreVariants}
use Rattle.uc_check.specs.Replacements.{IsRefutation, from_side, to_side, IsReplacement as IsLineReplacement, Leads}
use Rattle.uc_check.specs.Tests.{passes}
use Rattle.uc_check.specs.Lines.{IsChain, IsDenial, IsDerived, is_open, named_by, Tested}
use Rattle.uc_check.specs.Clauses.{equation_of as clause_equation}
use Rattle.uc_check.specs.Checks.{EndsInRefutation, IsRightLine, AreRightBefore}
use Rattle.uc_tstp.specs.Printable.{line_variables, renumbered_step, renumbered_source, renumbered_line}
use Rattle.uc_fact.specs.declared.chain.By.{By}
use Rattle.uc_fact.specs.declared.chain.By.TheVariants.{Axiom as AxiomOf, Fact as FactOf}
use Rattle.uc_fact.specs.declared.chain.Step.{Step}
use Rattle.uc_fact.specs.declared.chain.Chain.{Chain}
use Rattle.uc_fact.specs.declared.fact.Fact.{Fact}
use Rattle.uc_fact.specs.Live.{equation_of}
use Rattle.uc_fact.specs.Chains.{last_term}
use Rattle.uc_rewrite.specs.Replay.{named, replaced_side, IsReplacement, AreReplacements, LeadsFrom, FactsReplay}
use Rattle.uc_problem.specs.declared.problem.Problem.{Problem}
use Rattle.uc_problem.specs.declared.problem.Encoded.{Encoded}
use Rattle.uc_problem.specs.declared.problem.Source.{Source}
use Rattle.uc_problem.specs.declared.problem.Source.TheVariants as source
use Rattle.uc_problem.specs.Marks.{is_open_goal}
use Rattle.uc_pair.proofs.Replacing.{at_position-apply, apply-put_position}
use Rattle.uc_proof.specs.declared.aim.Aim.{Aim}
use Rattle.uc_proof.specs.declared.aim.Aim.TheVariants as aim
use Rattle.uc_proof.specs.declared.part.Part.{Part}
use Rattle.uc_proof.specs.declared.part.Part.TheVariants as part
use Rattle.uc_proof.specs.Needed.{IsGoal, IsNeeded}
use Rattle.uc_proof.specs.Parts.{part_of, all_parts, axioms_where, facts_from, is_clause, is_encoding, Selects, selects_none, selects, passes}
use Rattle.uc_proof.specs.Written.{line_name, clause_line, equation_line, refute_line, chain_source, IsStepFor, AreStepsFor, Says, says_clause, says_denial, says_reflexive, says_goal, says_fact, says_conclusion, refutes_denied, refutes_encoded, IsWritten, AreWritten}
use Rattle.uc_proof.specs.Making.{IsReached}
use Rattle.uc_proof.specs.Extracted.{IsEncodingOf, IsDerivation}
use Rattle.uc_proof.proofs.Renumbered.{Covers, covers_left, covers_right, unnumbered, numbered_variants, open_renamed, ground_stays}
use Rattle.uc_proof.proofs.Levels.{level, source_level, Ascends, lower_earlier, selected_ascend, parts_ascend}
use Rattle.uc_proof.proofs.Sources.{IsFrom, from_clause, from_reflexive, from_goal, IsAsked, asked_by_clause, asked_by_encoding, axiom_from, goal_asked}

-- the equation that is named among the first facts is named among all of them, and its fact is one of the first
pub fact_before : (facts : List Fact) (n m : ℕ) (e : Equation) → slice_get (map equation_of (take n facts)) m ≡ Some e → (m < n) × (slice_get (map equation_of facts) m ≡ Some e)
fact_before [] zero m e h = absurd cc
fact_before [] (suc n) m e h = absurd cc
fact_before (f ∷ fs) zero m e h = absurd cc
fact_before (f ∷ fs) (suc n) zero e h = (omega arith, h)
fact_before (f ∷ fs) (suc n) (suc m) e h = let r = fact_before fs n m e h in (let l = r.0 in omega arith, r.1)

pub fact_count : (facts : List Fact) (m : ℕ) (e : Equation) → slice_get (map equation_of facts) m ≡ Some e → m < length facts
fact_count [] m e h = absurd cc
fact_count (f ∷ fs) zero e h = omega arith
fact_count (f ∷ fs) (suc m) e h = let l = fact_count fs m e h in omega arith

fact_named : (facts : List Fact) (m : ℕ) (e : Equation) (fact : Fact) → slice_get (map equation_of facts) m ≡ Some e → slice_get facts m ≡ Some fact → equation_of fact ≡ e
fact_named [] m e fact h g = absurd cc
fact_named (f ∷ fs) zero e fact h g =
    let same : f ≡ fact = cc in
    let q : equation_of f ≡ e = let s : Some (equation_of f) ≡ Some e = h in cc in
    ap equation_of (sym same) ∙ q
fact_named (f ∷ fs) (suc m) e fact h g = fact_named fs m e fact h g

-- what a line says, with its variables numbered
pub record SaysEquation (line : Line) (e : Equation) : Type 0 where
  pub names : List ℕ
  pub left_is : line.left ≡ renumbered_by names e.left
  pub right_is : line.right ≡ renumbered_by names e.right
  pub left_covered : Covers names e.left
  pub right_covered : Covers names e.right
  pub positive : line.positive ≡ true
  pub equation : IsRefutation line.source → ⊥

-- a line of an equation or of a clause
says_own : (said line : Line) → line ≡ renumbered_line said → said.positive ≡ true → (IsRefutation (renumbered_source (line_variables said) said.source) → ⊥) → SaysEquation line (record { left = said.left; right = said.right })
says_own said line is p n = subst (λ (l : Line). SaysEquation l (record { left = said.left; right = said.right })) (sym is) (record {
  names = line_variables said;
  left_is = refl;
  right_is = refl;
  left_covered = covers_left said;
  right_covered = covers_right said;
  positive = p;
  equation = n;
})

-- a goal that is open is negative and has a variable, and one that isn't is ground
pub goal_is_open : (s : Sourced) → is_open_goal s ≡ true → (s.clause.positive ≡ false) × ((has_variable s.clause.left || has_variable s.clause.right) ≡ true)
goal_is_open s e = go s.clause.positive (has_variable s.clause.left || has_variable s.clause.right) e
  where
    go : (a b : Bool) → (if a then false else b) ≡ true → (a ≡ false) × (b ≡ true)
    go true b e = absurd cc
    go false b e = (refl, e)

goal_is_ground : (s : Sourced) → s.clause.positive ≡ false → is_open_goal s ≡ false → (has_variable s.clause.left || has_variable s.clause.right) ≡ false
goal_is_ground s p e = go s.clause.positive (has_variable s.clause.left || has_variable s.clause.right) p e
  where
    go : (a b : Bool) → a ≡ false → (if a then false else b) ≡ false → b ≡ false
    go true b p e = absurd cc
    go false b p e = e

same_variants : (l r : Tree) → AreVariants l r l r
same_variants l r = record { forth = λ x. x; back = λ x. x; left_forth = apply-var l; right_forth = apply-var r; left_back = apply-var l; right_back = apply-var r }

same_lines_named : (xs : List ℕ) (ws : List LineStep) → map (λ (s : LineStep). s.by) (map (renumbered_step xs) ws) ≡ map (λ (s : LineStep). s.by) ws
same_lines_named xs [] = refl
same_lines_named xs (w ∷ ws) = ap (λ l. w.by ∷ l) (same_lines_named xs ws)

-- a selected list ends as the list does, where the last two are so
two_last : (Is : Part → Type 0) (ps qs : List Part) (a b : Part) → Is a → Is b → Selects Is (ps ++ a ∷ b ∷ []) qs → (rs : List Part) × (qs ≡ rs ++ a ∷ b ∷ [])
two_last Is [] _ a b ha hb (selects h (selects g selects_none)) = ([], refl)
two_last Is [] _ a b ha hb (selects h (passes g s)) = absurd (g hb)
two_last Is [] _ a b ha hb (passes h s) = absurd (h ha)
two_last Is (p ∷ ps) (_ ∷ qs) a b ha hb (selects h s) = let r = two_last Is ps qs a b ha hb s in (p ∷ r.0, ap (λ l. p ∷ l) r.1)
two_last Is (p ∷ ps) qs a b ha hb (passes h s) = two_last Is ps qs a b ha hb s

at_last : (rs : List Part) (a b : Part) → slice_get (rs ++ a ∷ b ∷ []) (length rs + 1) ≡ Some b
at_last [] a b = refl
at_last (r ∷ rs) a b = let q : length (r ∷ rs) + 1 ≡ suc (length rs + 1) = omega arith in ap (λ n. slice_get (r ∷ (rs ++ a ∷ b ∷ [])) n) q ∙ at_last rs a b

pub inside : {A : Type 0} (xs : List A) (i : ℕ) (x : A) → slice_get xs i ≡ Some x → i < length xs
inside [] i x e = absurd cc
inside (y ∷ ys) zero x e = omega arith
inside (y ∷ ys) (suc i) x e = let l = inside ys i x e in omega arith

module _ (problem : Problem) (enc : Encoded) (facts : List Fact) (aimed : Aim) (plan : List Part) where
  -- the line of a part that is planned, and the part of a line
  pub written_at : (n : ℕ) (ps : List Part) (ls : List Line) (k : ℕ) (p : Part) → AreWritten problem enc facts aimed plan n ps ls → slice_get ps k ≡ Some p → (line : Line) × (slice_get ls k ≡ Some line) × IsWritten problem enc facts aimed plan (n + k) p line
  written_at n [] ls k p w e = absurd cc
  written_at n (q ∷ ps) [] k p w e = absurd w
  written_at n (q ∷ ps) (l ∷ ls) zero p w e =
      let same : q ≡ p = cc in
      let number : n ≡ n + 0 = omega arith in
      (l, refl, subst (λ (r : Part). IsWritten problem enc facts aimed plan (n + 0) r l) same (subst (λ (i : ℕ). IsWritten problem enc facts aimed plan i q l) number w.0))
  written_at n (q ∷ ps) (l ∷ ls) (suc k) p w e =
      let r = written_at (n + 1) ps ls k p w.1 e in
      let number : n + 1 + k ≡ n + suc k = omega arith in
      (r.0, r.1, subst (λ (i : ℕ). IsWritten problem enc facts aimed plan i p r.0) number r.2)

  pub part_at : (n : ℕ) (ps : List Part) (ls : List Line) (k : ℕ) (line : Line) → AreWritten problem enc facts aimed plan n ps ls → slice_get ls k ≡ Some line → (p : Part) × (slice_get ps k ≡ Some p) × IsWritten problem enc facts aimed plan (n + k) p line
  part_at n [] [] k line w e = absurd cc
  part_at n [] (l ∷ ls) k line w e = absurd w
  part_at n (q ∷ ps) [] k line w e = absurd w
  part_at n (q ∷ ps) (l ∷ ls) zero line w e =
      let same : l ≡ line = cc in
      let number : n ≡ n + 0 = omega arith in
      (q, refl, subst (λ (x : Line). IsWritten problem enc facts aimed plan (n + 0) q x) same (subst (λ (i : ℕ). IsWritten problem enc facts aimed plan i q l) number w.0))
  part_at n (q ∷ ps) (l ∷ ls) (suc k) line w e =
      let r = part_at (n + 1) ps ls k line w.1 e in
      let number : n + 1 + k ≡ n + suc k = omega arith in
      (r.0, r.1, subst (λ (i : ℕ). IsWritten problem enc facts aimed plan i r.0 line) number r.2)

  as_long : (n : ℕ) (ps : List Part) (ls : List Line) → AreWritten problem enc facts aimed plan n ps ls → length ps ≡ length ls
  as_long n [] [] w = refl
  as_long n [] (l ∷ ls) w = absurd w
  as_long n (q ∷ ps) [] w = absurd w
  as_long n (q ∷ ps) (l ∷ ls) w = ap suc (as_long (n + 1) ps ls w.1)

  module _ (lines : List Line) (is : IsEncodingOf problem enc) (written : AreWritten problem enc facts aimed plan 0 plan lines) (ascends : Ascends enc.sources (length facts) 0 plan) where
    abbrev rank : Part → ℕ
    rank p = level enc.sources (length facts) p

    at_line : (k : ℕ) (p : Part) → slice_get plan k ≡ Some p → (line : Line) × (slice_get lines k ≡ Some line) × IsWritten problem enc facts aimed plan k p line
    at_line k p e =
        let r = written_at 0 plan lines k p written e in
        let q : 0 + k ≡ k = omega arith in
        (r.0, r.1, subst (λ (i : ℕ). IsWritten problem enc facts aimed plan i p r.0) q r.2)

    earlier : (i k : ℕ) (p q : Part) → slice_get plan i ≡ Some p → slice_get plan k ≡ Some q → rank p < rank q → i < k
    earlier i k p q e f h = lower_earlier enc.sources (length facts) 0 plan i k p q ascends e f h

    -- the line of an axiom says its equation
    says_axiom : (k : ℕ) (e : Equation) (name : List ℕ) (said line : Line) → slice_get enc.axioms k ≡ Some e → line ≡ renumbered_line said → Says problem enc facts aimed plan name (part.Axiom k) said → SaysEquation line e
    says_axiom k e name _ line h is_line (says_clause {c} {s} at there) = go (axiom_from problem enc is k e h)
      where
        go : IsFrom problem enc k e → SaysEquation line e
        go (from_clause c' s' at' there' positive q) =
            let number : c ≡ c' = let z : Some (source.Clause c) ≡ Some (source.Clause c') = sym at ∙ at' in cc in
            let same : s ≡ s' = let z : Some s ≡ Some s' = sym there ∙ ap (slice_get problem.clauses) number ∙ there' in cc in
            subst (SaysEquation line) (ap (λ (x : Sourced). clause_equation x.clause) same ∙ q) (says_own (clause_line name s.clause) line is_line (ap (λ (x : Sourced). x.clause.positive) same ∙ positive) (λ n. n))
        go (from_reflexive marks at' f q) = let z : Some (source.Clause c) ≡ Some source.Reflexive = sym at ∙ at' in absurd cc
        go (from_goal marks c' s' at' f there' o q) = let z : Some (source.Clause c) ≡ Some (source.Goal c') = sym at ∙ at' in absurd cc
    says_axiom k e name _ line h is_line (says_reflexive {e = e'} at h') =
        let same : e' ≡ e = let z : Some e' ≡ Some e = sym h' ∙ h in cc in
        subst (SaysEquation line) same (says_own (equation_line name (Reflexive []) e') line is_line refl (λ n. n))
    says_axiom k e name _ line h is_line (says_goal {c} {denial} {e = e'} at h' d) =
        let same : e' ≡ e = let z : Some e' ≡ Some e = sym h' ∙ h in cc in
        subst (SaysEquation line) same (says_own (equation_line name (EncodeGoal (denial ∷ [])) e') line is_line refl (λ n. n))

    says_of_fact : (n : ℕ) (e : Equation) (name : List ℕ) (said line : Line) → slice_get (map equation_of facts) n ≡ Some e → line ≡ renumbered_line said → Says problem enc facts aimed plan name (part.Fact n) said → SaysEquation line e
    says_of_fact n e name _ line h is_line (says_fact {fact} {steps} g a) =
        subst (SaysEquation line) (fact_named facts n e fact h g) (says_own (equation_line name (chain_source fact.chain.start steps) (equation_of fact)) line is_line refl (λ n. n))

    -- so does the line of each equation that is named
    says_named : (by : By) (e : Equation) (i : ℕ) → named enc.axioms facts by ≡ Some e → slice_get plan i ≡ Some (part_of by) → (line : Line) × (slice_get lines i ≡ Some line) × SaysEquation line e
    says_named (AxiomOf k) e i h at = let r = at_line i (part.Axiom k) at in (r.0, r.1, says_axiom k e (line_name i) r.2.said r.0 h r.2.line_is r.2.says)
    says_named (FactOf n) e i h at = let r = at_line i (part.Fact n) at in (r.0, r.1, says_of_fact n e (line_name i) r.2.said r.0 h r.2.line_is r.2.says)

    -- an instance of a line's side is one of the equation's
    module _ (line : Line) (e : Equation) (s : SaysEquation line e) (τ : ℕ → Tree) where
      from_named : (way : Bool) → apply (λ i. τ (get_or s.names i 0)) (from_side way line) ≡ apply τ (side_of (replaced_side way) e)
      from_named true = ap (apply (λ i. τ (get_or s.names i 0))) s.left_is ∙ unnumbered s.names τ e.left s.left_covered
      from_named false = ap (apply (λ i. τ (get_or s.names i 0))) s.right_is ∙ unnumbered s.names τ e.right s.right_covered

      to_named : (way : Bool) → apply (λ i. τ (get_or s.names i 0)) (to_side way line) ≡ apply τ (other_side_of (replaced_side way) e)
      to_named true = ap (apply (λ i. τ (get_or s.names i 0))) s.right_is ∙ unnumbered s.names τ e.right s.right_covered
      to_named false = ap (apply (λ i. τ (get_or s.names i 0))) s.left_is ∙ unnumbered s.names τ e.left s.left_covered

    -- The steps of a chain, by equations whose lines are earlier than line k.
    module _ (xs : List ℕ) (k : ℕ) (p : Part) (at_k : slice_get plan k ≡ Some p) (fs : List Fact) (widen : (by : By) (e : Equation) → named enc.axioms fs by ≡ Some e → (named enc.axioms facts by ≡ Some e) × (rank (part_of by) < rank p)) where
      abbrev ρ : ℕ → Tree
      ρ x = var (place_of xs x)

      replaced : (u : Tree) (step : Step) (w : LineStep) → IsReplacement enc.axioms fs u step → IsStepFor plan u step w → IsLineReplacement lines (renumbered_by xs u) (renumbered_step xs w)
      replaced u step w r s =
          let e = r.equation in
          let line = says_named step.by e w.by (widen step.by e r.equation_is).0 s.by in
          let σ = r.replaces.σ in
          let τ : ℕ → Tree = λ x. apply ρ (σ x) in
          let way = w.left_to_right in
          let part_here = subterm u step.position.0 in
          let from_is : apply τ (side_of (replaced_side way) e) ≡ apply ρ part_here =
          ap (λ b. apply τ (side_of (replaced_side b) e)) s.way ∙ sym (apply-apply ρ σ (side_of (replaced_side step.left_to_right) e)) ∙ ap (apply ρ) r.replaces.from_is in
          let other = other_side_of (replaced_side step.left_to_right) e in
          let to_is : apply τ (other_side_of (replaced_side way) e) ≡ apply ρ (apply σ other) =
          ap (λ b. apply τ (other_side_of (replaced_side b) e)) s.way ∙ sym (apply-apply ρ σ other) in
          record {
            line = line.0;
            line_is = line.1;
            positive = line.2.positive;
            equation = line.2.equation;
            part = apply ρ part_here;
            part_is = at_position-apply ρ w.path u part_here s.path.there;
            σ = λ i. τ (get_or line.2.names i 0);
            from_is = from_named line.0 e line.2 τ way ∙ from_is;
            to_is =
                ap (put_position (apply ρ u) w.path) (to_named line.0 e line.2 τ way ∙ to_is)
                ∙ sym (apply-put_position ρ w.path u part_here (apply σ other) s.path.there)
                ∙ ap (apply ρ) (sym (s.path.puts (apply σ other)) ∙ r.replaces.to_is ∙ sym s.to);
          }

      leads : (u : Tree) (steps : List Step) (ws : List LineStep) → AreReplacements enc.axioms fs u steps → AreStepsFor plan u steps ws → Leads lines k (renumbered_by xs u) (map (renumbered_step xs) ws) (Ok (renumbered_by xs (last_term u steps)))
      leads u [] [] a s = refl
      leads u [] (w ∷ ws) a s = absurd s
      leads u (step ∷ steps) [] a s = absurd s
      leads u (step ∷ steps) (w ∷ ws) a s =
          let e = a.0.equation in
          let before : w.by < k = earlier w.by k (part_of step.by) p s.0.by at_k (widen step.by e a.0.equation_is).1 in
          passes before (passes (replaced u step w a.0 s.0) (subst (λ (t : Tree). Leads lines k (renumbered_by xs t) (map (renumbered_step xs) ws) (Ok (renumbered_by xs (last_term step.to steps)))) (sym s.0.to) (leads step.to steps ws a.1 s.1)))

    -- a line whose chain replays
    chain_tested : (k : ℕ) (p : Part) (name : List ℕ) (fs : List Fact) (chain : Chain) (e : Equation) (ws : List LineStep) → slice_get plan k ≡ Some p → ((by : By) (d : Equation) → named enc.axioms fs by ≡ Some d → (named enc.axioms facts by ≡ Some d) × (rank (part_of by) < rank p)) → LeadsFrom enc.axioms fs chain e.left e.right → AreStepsFor plan chain.start chain.steps ws → (line : Line) → line ≡ renumbered_line (equation_line name (chain_source chain.start ws) e) → Tested problem.clauses enc.fresh lines k line line.source None
    chain_tested k p name fs chain e ws at_k widen r s line q =
        let said = equation_line name (chain_source chain.start ws) e in
        let xs = line_variables said in
        subst (λ (l : Line). Tested problem.clauses enc.fresh lines k l l.source None) (sym q)
        (passes (ap (renumbered_by xs) r.start_is) (record {
          end = Ok (renumbered_by xs (last_term chain.start chain.steps));
          leads = leads xs k p at_k fs widen chain.start chain.steps ws r.replays s;
          ends = passes (ap (renumbered_by xs) r.end_is) (passes (ap firsts (sym (same_lines_named xs ws))) refl);
        }))

    -- what is named among the facts stands before the chain of a fact behind them, and before the goal's
    widen_fact : (n : ℕ) (by : By) (e : Equation) → named enc.axioms (take n facts) by ≡ Some e → (named enc.axioms facts by ≡ Some e) × (rank (part_of by) < 3 + n)
    widen_fact n (AxiomOf k) e h = (h, low (slice_get enc.sources k))
      where
        low : (o : Option Source) → source_level o < 3 + n
        low None = omega arith
        low (Some (source.Clause c)) = omega arith
        low (Some source.Reflexive) = omega arith
        low (Some (source.Goal c)) = omega arith
    widen_fact n (FactOf m) e h = let r = fact_before facts n m e h in (r.1, let l = r.0 in omega arith)

    widen_all : (by : By) (e : Equation) → named enc.axioms facts by ≡ Some e → (named enc.axioms facts by ≡ Some e) × (rank (part_of by) < 3 + length facts)
    widen_all (AxiomOf k) e h = (h, low (slice_get enc.sources k))
      where
        low : (o : Option Source) → source_level o < 3 + length facts
        low None = omega arith
        low (Some (source.Clause c)) = omega arith
        low (Some source.Reflexive) = omega arith
        low (Some (source.Goal c)) = omega arith
    widen_all (FactOf m) e h = (h, let l = fact_count facts m e h in omega arith)

    -- a line of a clause
    clause_tested : (k c : ℕ) (name : List ℕ) (s : Sourced) (line : Line) → slice_get problem.clauses c ≡ Some s → line ≡ renumbered_line (clause_line name s.clause) → Tested problem.clauses enc.fresh lines k line line.source None
    clause_tested k c name s line there q =
        let said = clause_line name s.clause in
        subst (λ (l : Line). Tested problem.clauses enc.fresh lines k l l.source None) (sym q)
        (passes (record {
          number = c;
          sourced = s;
          sourced_is = there;
          same = record { name_is = refl; polarity = refl; variants = numbered_variants (line_variables said) s.clause.left s.clause.right (covers_left said) (covers_right said) };
        }) refl)

    -- the line of a goal's clause
    pub record IsDenialOf (c i : ℕ) : Type 0 where
      pub sourced : Sourced
      pub there : slice_get problem.clauses c ≡ Some sourced
      pub line : Line
      pub line_is : slice_get lines i ≡ Some line
      pub names : List ℕ
      pub names_are : names ≡ line_variables (clause_line [] sourced.clause)
      pub left_is : line.left ≡ renumbered_by names sourced.clause.left
      pub right_is : line.right ≡ renumbered_by names sourced.clause.right
      pub denies : sourced.clause.positive ≡ false → IsDenial line

    denial_of : (c i : ℕ) → slice_get plan i ≡ Some (part.Denial c) → IsDenialOf c i
    denial_of c i at = let r = at_line i (part.Denial c) at in go (line_name i) r.2.said r.0 r.1 r.2.line_is r.2.says
      where
        go : (name : List ℕ) (said line : Line) → slice_get lines i ≡ Some line → line ≡ renumbered_line said → Says problem enc facts aimed plan name (part.Denial c) said → IsDenialOf c i
        go name _ line l q (says_denial {s} there) = record {
          sourced = s;
          there = there;
          line = line;
          line_is = l;
          names = line_variables (clause_line [] s.clause);
          names_are = refl;
          left_is = ap (λ (x : Line). x.left) q;
          right_is = ap (λ (x : Line). x.right) q;
          denies = λ p. subst IsDenial (sym q) (tt, p);
        }

    -- the goal's chain line
    pub record IsConclusionAt (e : Equation) (i : ℕ) : Type 0 where
      pub line : Line
      pub line_is : slice_get lines i ≡ Some line
      pub names : List ℕ
      pub left_is : line.left ≡ renumbered_by names e.left
      pub right_is : line.right ≡ renumbered_by names e.right
      pub positive : line.positive ≡ true
      pub start : Tree
      pub steps : List LineStep
      pub parents : List ℕ
      pub source_is : line.source ≡ ByChain start steps parents

    conclusion_at : (way : Chain) (goal : ℕ) (e : Equation) (i : ℕ) → aimed ≡ aim.Goal way goal → slice_get enc.goals goal ≡ Some e → slice_get plan i ≡ Some part.Conclusion → IsConclusionAt e i
    conclusion_at way goal e i aims g at = let r = at_line i part.Conclusion at in go (line_name i) r.2.said r.0 r.1 r.2.line_is r.2.says
      where
        go : (name : List ℕ) (said line : Line) → slice_get lines i ≡ Some line → line ≡ renumbered_line said → Says problem enc facts aimed plan name part.Conclusion said → IsConclusionAt e i
        go name _ line l q (says_conclusion {chain = way'} {goal = goal'} {e = e'} {steps} aims' g' a) =
            let number : goal' ≡ goal = let z : aim.Goal way' goal' ≡ aim.Goal way goal = sym aims' ∙ aims in cc in
            let same : e' ≡ e = let z : Some e' ≡ Some e = sym g' ∙ ap (slice_get enc.goals) number ∙ g in cc in
            let said = equation_line name (chain_source way'.start steps) e' in
            let xs = line_variables said in
            record {
              line = line;
              line_is = l;
              names = xs;
              left_is = ap (λ (x : Line). x.left) q ∙ ap (λ (x : Equation). renumbered_by xs x.left) same;
              right_is = ap (λ (x : Line). x.right) q ∙ ap (λ (x : Equation). renumbered_by xs x.right) same;
              positive = ap (λ (x : Line). x.positive) q;
              start = renumbered_by xs way'.start;
              steps = map (renumbered_step xs) steps;
              parents = named_by steps;
              source_is = ap (λ (x : Line). x.source) q;
            }

    is_chain : (i : ℕ) (e : Equation) (c : IsConclusionAt e i) → IsDerived c.line
    is_chain i e c = (subst IsChain (sym c.source_is) tt, c.positive)

    -- eq(X,X) = true
    reflexive_tested : (k j : ℕ) (e : Equation) (name : List ℕ) (line : Line) → slice_get enc.sources j ≡ Some source.Reflexive → slice_get enc.axioms j ≡ Some e → line ≡ renumbered_line (equation_line name (Reflexive []) e) → Tested problem.clauses enc.fresh lines k line line.source None
    reflexive_tested k j e name line at h q = go (axiom_from problem enc is j e h)
      where
        go : IsFrom problem enc j e → Tested problem.clauses enc.fresh lines k line line.source None
        go (from_clause c s at' there positive same) = let z : Some source.Reflexive ≡ Some (source.Clause c) = sym at ∙ at' in absurd cc
        go (from_goal marks c s at' f there o same) = let z : Some source.Reflexive ≡ Some (source.Goal c) = sym at ∙ at' in absurd cc
        go (from_reflexive marks at' f same) =
            let r = reflexive marks in
            let own : line ≡ renumbered_line (equation_line name (Reflexive []) r) = q ∙ ap (λ (x : Equation). renumbered_line (equation_line name (Reflexive []) x)) same in
            subst (λ (l : Line). Tested problem.clauses enc.fresh lines k l l.source None) (sym own)
            (passes tt (passes (record { marks = marks; marks_are = f; parents_are = refl; positive = refl; left_is = refl; right_is = refl }) refl))

    -- the names of a goal's sides are those of its encoded equation
    same_names : (marks : Fresh) (name : List ℕ) (s : Sourced) (denial : ℕ) → line_variables (clause_line [] s.clause) ≡ line_variables (equation_line name (EncodeGoal (denial ∷ [])) (refuted marks (clause_equation s.clause)))
    same_names marks name s denial =
        let l = variables s.clause.left in
        let r = variables s.clause.right in
        ap firsts (ap (λ x. x ++ []) (sym (append-nil (l ++ (r ++ [])) ∙ sym (append_assoc l r []) ∙ append-nil (l ++ r))))

    -- eq(s,t) = false
    goal_tested : (k j c denial : ℕ) (e : Equation) (name : List ℕ) (line : Line) → slice_get plan k ≡ Some (part.Axiom j) → slice_get enc.sources j ≡ Some (source.Goal c) → slice_get enc.axioms j ≡ Some e → slice_get plan denial ≡ Some (part.Denial c) → line ≡ renumbered_line (equation_line name (EncodeGoal (denial ∷ [])) e) → Tested problem.clauses enc.fresh lines k line line.source None
    goal_tested k j c denial e name line at_k at h d q = go (axiom_from problem enc is j e h)
      where
        go : IsFrom problem enc j e → Tested problem.clauses enc.fresh lines k line line.source None
        go (from_clause c' s at' there positive same) = let z : Some (source.Goal c) ≡ Some (source.Clause c') = sym at ∙ at' in absurd cc
        go (from_reflexive marks at' f same) = let z : Some (source.Goal c) ≡ Some source.Reflexive = sym at ∙ at' in absurd cc
        go (from_goal marks c' s' at' f there' o same) =
            let number : c ≡ c' = let z : Some (source.Goal c) ≡ Some (source.Goal c') = sym at ∙ at' in cc in
            let g = denial_of c denial d in
            let s = g.sourced in
            let alike : s' ≡ s = let z : Some s' ≡ Some s = sym there' ∙ ap (slice_get problem.clauses) (sym number) ∙ g.there in cc in
            let open_goal : is_open_goal s ≡ true = ap is_open_goal (sym alike) ∙ o in
            let kind = goal_is_open s open_goal in
            let e_is : e ≡ refuted marks (clause_equation s.clause) = same ∙ ap (λ (x : Sourced). refuted marks (clause_equation x.clause)) alike in
            let source_k : source_level (slice_get enc.sources j) ≡ 2 = ap source_level at in
            let before : denial < k = earlier denial k (part.Denial c) (part.Axiom j) d at_k (omega (arith, source_k)) in
            let said = equation_line name (EncodeGoal (denial ∷ [])) (refuted marks (clause_equation s.clause)) in
            let own : line ≡ renumbered_line said = q ∙ ap (λ (x : Equation). renumbered_line (equation_line name (EncodeGoal (denial ∷ [])) x)) e_is in
            let xs = line_variables said in
            let names : g.names ≡ xs = g.names_are ∙ same_names marks name s denial in
            let left : g.line.left ≡ renumbered_by xs s.clause.left = g.left_is ∙ ap (λ (ys : List ℕ). renumbered_by ys s.clause.left) names in
            let right : g.line.right ≡ renumbered_by xs s.clause.right = g.right_is ∙ ap (λ (ys : List ℕ). renumbered_by ys s.clause.right) names in
            let pair : pair_term marks g.line.left g.line.right ≡ pair_term marks (renumbered_by xs s.clause.left) (renumbered_by xs s.clause.right) = ap₂ (pair_term marks) left right in
            let opened : is_open g.line ≡ true =
            ap₂ (λ a b. a || b) (ap has_variable left ∙ open_renamed (place_of xs) s.clause.left) (ap has_variable right ∙ open_renamed (place_of xs) s.clause.right) ∙ kind.1 in
            subst (λ (l : Line). Tested problem.clauses enc.fresh lines k l l.source None) (sym own)
            (passes (before, tt) (passes (record {
              marks = marks;
              marks_are = f;
              parent = denial;
              parents_are = refl;
              goal = g.line;
              goal_is = g.line_is;
              reads = record {
                denial = g.denies kind.0;
                has_variables = opened;
                positive = refl;
                variants = subst (λ (t : Tree). AreVariants (pair_term marks g.line.left g.line.right) (no_term marks) t (no_term marks)) pair (same_variants (pair_term marks g.line.left g.line.right) (no_term marks));
              };
            }) refl))

    -- the refutation of a ground goal, and of the encoding's
    ground_refuted : (way : Chain) (goal : ℕ) (k c denial chain : ℕ) (e : Equation) (name : List ℕ) (line : Line) → aimed ≡ aim.Goal way goal → slice_get enc.goals goal ≡ Some e → slice_get plan k ≡ Some part.Refutation → slice_get enc.goal_clauses goal ≡ Some (Some c) → slice_get plan denial ≡ Some (part.Denial c) → slice_get plan chain ≡ Some part.Conclusion → line ≡ renumbered_line (refute_line name (denial ∷ chain ∷ [])) → Tested problem.clauses enc.fresh lines k line line.source None
    ground_refuted way goal k c denial chain e name line aims h at_k at d at_chain q = go (goal_asked problem enc is goal e h)
      where
        go : IsAsked problem enc goal e → Tested problem.clauses enc.fresh lines k line line.source None
        go (asked_by_encoding marks at' f same) = let z : Some (Some c) ≡ Some None = sym at ∙ at' in absurd cc
        go (asked_by_clause c' s' at' there' negative closed same) =
            let number : c ≡ c' = let z : Some (Some c) ≡ Some (Some c') = sym at ∙ at' in cc in
            let g = denial_of c denial d in
            let s = g.sourced in
            let alike : s' ≡ s = let z : Some s' ≡ Some s = sym there' ∙ ap (slice_get problem.clauses) (sym number) ∙ g.there in cc in
            let n = conclusion_at way goal e chain aims h at_chain in
            let p : s.clause.positive ≡ false = ap (λ (x : Sourced). x.clause.positive) (sym alike) ∙ negative in
            let sides = or_parts (has_variable s.clause.left) (has_variable s.clause.right) (goal_is_ground s p (ap is_open_goal (sym alike) ∙ closed)) in
            let e_is : e ≡ clause_equation s.clause = sym same ∙ ap (λ (x : Sourced). clause_equation x.clause) alike in
            let left : g.line.left ≡ s.clause.left = g.left_is ∙ ground_stays (λ x. var (place_of g.names x)) s.clause.left sides.0 in
            let right : g.line.right ≡ s.clause.right = g.right_is ∙ ground_stays (λ x. var (place_of g.names x)) s.clause.right sides.1 in
            let chain_left : n.line.left ≡ s.clause.left = n.left_is ∙ ap (λ (x : Equation). renumbered_by n.names x.left) e_is ∙ ground_stays (λ x. var (place_of n.names x)) s.clause.left sides.0 in
            let chain_right : n.line.right ≡ s.clause.right = n.right_is ∙ ap (λ (x : Equation). renumbered_by n.names x.right) e_is ∙ ground_stays (λ x. var (place_of n.names x)) s.clause.right sides.1 in
            let first : denial < k = earlier denial k (part.Denial c) part.Refutation d at_k (omega arith) in
            let second : chain < k = earlier chain k part.Conclusion part.Refutation at_chain at_k (omega arith) in
            subst (λ (l : Line). Tested problem.clauses enc.fresh lines k l l.source None) (sym q)
            (passes (first, (second, tt)) (passes (inl (record {
              first = denial;
              second = chain;
              parents_are = refl;
              goal = g.line;
              goal_is = g.line_is;
              chain = n.line;
              chain_is = n.line_is;
              shows = record {
                denial = g.denies p;
                ground_goal = ap₂ (λ a b. a || b) (ap has_variable left ∙ sides.0) (ap has_variable right ∙ sides.1);
                derived = is_chain chain e n;
                left_same = chain_left ∙ sym left;
                right_same = chain_right ∙ sym right;
              };
            })) refl))

    encoding_refuted : (way : Chain) (goal : ℕ) (k chain : ℕ) (e : Equation) (name : List ℕ) (line : Line) → aimed ≡ aim.Goal way goal → slice_get enc.goals goal ≡ Some e → slice_get plan k ≡ Some part.Refutation → slice_get enc.goal_clauses goal ≡ Some None → slice_get plan chain ≡ Some part.Conclusion → line ≡ renumbered_line (refute_line name (chain ∷ [])) → Tested problem.clauses enc.fresh lines k line line.source None
    encoding_refuted way goal k chain e name line aims h at_k at at_chain q = go (goal_asked problem enc is goal e h)
      where
        go : IsAsked problem enc goal e → Tested problem.clauses enc.fresh lines k line line.source None
        go (asked_by_clause c' s' at' there' negative closed same) = let z : Some None ≡ Some (Some c') = sym at ∙ at' in absurd cc
        go (asked_by_encoding marks at' f same) =
            let n = conclusion_at way goal e chain aims h at_chain in
            let before : chain < k = earlier chain k part.Conclusion part.Refutation at_chain at_k (omega arith) in
            subst (λ (l : Line). Tested problem.clauses enc.fresh lines k l l.source None) (sym q)
            (passes (before, tt) (passes (inr (record {
              marks = marks;
              marks_are = f;
              parent = chain;
              parents_are = refl;
              chain = n.line;
              chain_is = n.line_is;
              shows = record {
                derived = is_chain chain e n;
                left_is = n.left_is ∙ ap (λ (x : Equation). renumbered_by n.names x.left) same;
                right_is = n.right_is ∙ ap (λ (x : Equation). renumbered_by n.names x.right) same;
              };
            })) refl))

    -- each line passes its tests
    module _ (replay : FactsReplay enc.axioms facts) (reached : IsReached enc facts aimed) where
      -- the goal, and its chain
      asked : (way : Chain) (goal : ℕ) → aimed ≡ aim.Goal way goal → (e : Equation) × (slice_get enc.goals goal ≡ Some e) × LeadsFrom enc.axioms facts way e.left e.right
      asked way goal q = subst (IsReached enc facts) q reached

      tested : (k : ℕ) (p : Part) (name : List ℕ) (said line : Line) → slice_get plan k ≡ Some p → line ≡ renumbered_line said → Says problem enc facts aimed plan name p said → Tested problem.clauses enc.fresh lines k line line.source None
      tested k _ name _ line at_k q (says_clause {c} {s} at there) = clause_tested k c name s line there q
      tested k _ name _ line at_k q (says_denial {c} {s} there) = clause_tested k c name s line there q
      tested k _ name _ line at_k q (says_reflexive {k = j} {e = d} at h) = reflexive_tested k j d name line at h q
      tested k _ name _ line at_k q (says_goal {k = j} {c} {denial} {e = d} at h there) = goal_tested k j c denial d name line at_k at h there q
      tested k _ name _ line at_k q (says_fact {n} {fact} {steps = ws} g a) = chain_tested k (part.Fact n) name (take n facts) fact.chain (equation_of fact) ws at_k (widen_fact n) (replay n fact g) a line q
      tested k _ name _ line at_k q (says_conclusion {chain = way} {goal} {e = d} {steps = ws} aims g a) =
          let r = asked way goal aims in
          let same : r.0 ≡ d = let z : Some r.0 ≡ Some d = sym r.1 ∙ g in cc in
          chain_tested k part.Conclusion name facts way d ws at_k widen_all (subst (λ (x : Equation). LeadsFrom enc.axioms facts way x.left x.right) same r.2) a line q
      tested k _ name _ line at_k q (refutes_denied {chain = way} {goal} {c} {denial} {proved = chain} aims at d at_chain) = let r = asked way goal aims in ground_refuted way goal k c denial chain r.0 name line aims r.1 at_k at d at_chain q
      tested k _ name _ line at_k q (refutes_encoded {chain = way} {goal} {proved = chain} aims at at_chain) = let r = asked way goal aims in encoding_refuted way goal k chain r.0 name line aims r.1 at_k at at_chain q

      right_line : (k : ℕ) → IsRightLine problem.clauses enc.fresh lines k
      right_line k line l = let r = part_at 0 plan lines k line written l in tested k r.0 (line_name (0 + k)) r.2.said line r.1 r.2.line_is r.2.says

    -- the line of the refutation
    refutation_at : (k : ℕ) → slice_get plan k ≡ Some part.Refutation → (line : Line) × (slice_get lines k ≡ Some line) × IsRefutation line.source
    refutation_at k at = let r = at_line k part.Refutation at in (r.0, r.1, go (line_name k) r.2.said r.0 r.2.line_is r.2.says)
      where
        go : (name : List ℕ) (said line : Line) → line ≡ renumbered_line said → Says problem enc facts aimed plan name part.Refutation said → IsRefutation line.source
        go name _ line q (refutes_denied aims at' d c) = subst (λ (l : Line). IsRefutation l.source) (sym q) tt
        go name _ line q (refutes_encoded aims at' c) = subst (λ (l : Line). IsRefutation l.source) (sym q) tt

module _ (problem : Problem) (enc : Encoded) (facts : List Fact) (aimed : Aim) (lines : List Line) (files : List (List ℕ)) (is : IsEncodingOf problem enc) (x : IsDerivation problem enc facts aimed lines files) where
  pub ascends : Ascends enc.sources (length facts) 0 x.plan
  ascends = selected_ascend enc.sources (length facts) (IsNeeded enc facts aimed) 0 (all_parts problem enc (length facts)) x.plan x.selected (parts_ascend enc.sources (length facts) problem.goals)

  pub all_right : FactsReplay enc.axioms facts → IsReached enc facts aimed → AreRightBefore problem.clauses enc.fresh lines (length lines)
  all_right replay reached k h = right_line problem enc facts aimed x.plan lines is x.written ascends replay reached k

  pub refutes_last : IsGoal aimed → EndsInRefutation lines
  refutes_last goal =
      let front = axioms_where is_clause 0 enc.sources ++ (map part.Denial problem.goals ++ (axioms_where is_encoding 0 enc.sources ++ facts_from 0 (length facts))) in
      let parts : all_parts problem enc (length facts) ≡ front ++ part.Conclusion ∷ part.Refutation ∷ [] = regroup (axioms_where is_clause 0 enc.sources) (map part.Denial problem.goals) (axioms_where is_encoding 0 enc.sources) (facts_from 0 (length facts)) (part.Conclusion ∷ part.Refutation ∷ []) in
      let two = two_last (IsNeeded enc facts aimed) front x.plan part.Conclusion part.Refutation goal goal (subst (λ (ps : List Part). Selects (IsNeeded enc facts aimed) ps x.plan) parts x.selected) in
      let at : slice_get x.plan (length two.0 + 1) ≡ Some part.Refutation = ap (λ l. slice_get l (length two.0 + 1)) two.1 ∙ at_last two.0 part.Conclusion part.Refutation in
      let r = refutation_at problem enc facts aimed x.plan lines is x.written ascends (length two.0 + 1) at in
      let long : length lines ≡ length two.0 + 2 = sym (as_long problem enc facts aimed x.plan 0 x.plan lines x.written) ∙ ap length two.1 ∙ length-append two.0 (part.Conclusion ∷ part.Refutation ∷ []) in
      record {
        last = length two.0 + 1;
        last_is = omega (arith, long);
        line = r.0;
        line_is = r.1;
        refutes = r.2;
      }
    where
      regroup : (a b c d e : List Part) → a ++ (b ++ (c ++ (d ++ e))) ≡ (a ++ (b ++ (c ++ d))) ++ e
      regroup a b c d e = ap (λ l. a ++ l) (ap (λ l. b ++ l) (sym (append_assoc c d e)) ∙ sym (append_assoc b (c ++ d) e)) ∙ sym (append_assoc a (b ++ (c ++ d)) e)
