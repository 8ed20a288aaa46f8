-- The lines of an extracted proof: as many as files, with terms of the table and numbers of lines.
use Rattle.std.proofs.Common.{ℕ, ◌≡◌, ◌<◌, ◌+◌, Bool, true, false, List, [], ◌∷◌, ◌++◌, length, map, slice_get, Some, if◌then◌else◌, refl, sym, ap, ◌∙◌, subst, arith}
use Rattle.std.specs.List.{AllByRecursion}
use Rattle.std.proofs.lemmas.List.{length-map}
use Rattle.std.proofs.lemmas.Option.{slice_get_within}
use Rattle.uc_term.specs.Tree.{Tree, var, app, Trees, none, more, count, apply, apply_all}
use Rattle.uc_term.specs.Over.{AreOver}
use Rattle.uc_term.specs.Table.{Table, Has, IsOf, arity_of}
use Rattle.uc_term.specs.Variables.{is_among, firsts_after, place_of, renumbered_by}
use Rattle.uc_term.specs.declared.equation.Equation.{Equation}
use Rattle.uc_clause.specs.declared.clause.Sourced.{Sourced}
use Rattle.uc_check.specs.declared.proof.Line.{Line}
use Rattle.uc_check.specs.declared.proof.LineStep.{LineStep}
use Rattle.uc_check.specs.declared.proof.LineSource.TheVariants.{Reflexive, EncodeGoal}
use Rattle.uc_tstp.specs.Printing.{AreNumbers, IsStepOf, IsLineOf, AreLinesOf}
use Rattle.uc_tstp.specs.Printable.{line_variables, renumbered_step, renumbered_line}
use Rattle.uc_fact.specs.declared.chain.Step.{Step}
use Rattle.uc_fact.specs.declared.chain.Chain.{Chain}
use Rattle.uc_fact.specs.declared.fact.Fact.{Fact}
use Rattle.uc_fact.specs.Chains.{steps_back}
use Rattle.uc_problem.specs.declared.problem.Problem.{Problem}
use Rattle.uc_problem.specs.declared.problem.Encoded.{Encoded}
use Rattle.uc_proof.specs.declared.aim.Aim.{Aim}
use Rattle.uc_proof.specs.declared.aim.Aim.TheVariants as aim
use Rattle.uc_proof.specs.declared.part.Part.{Part}
use Rattle.uc_proof.specs.Chains.{conclusion_of}
use Rattle.uc_proof.specs.Files.{part_file}
use Rattle.uc_proof.specs.Written.{clause_line, equation_line, line_name, AreStepsFor, Says, says_clause, says_denial, says_reflexive, says_goal, says_fact, says_conclusion, refutes_denied, refutes_encoded, AreWritten}
use Rattle.uc_proof.specs.Extracted.{IsDerivation}

-- as many lines as parts, and as files
written_length : (problem : Problem) (enc : Encoded) (facts : List Fact) (aimed : Aim) (plan : List Part) (k : ℕ) (ps : List Part) (lines : List Line) → AreWritten problem enc facts aimed plan k ps lines → length ps ≡ length lines
written_length problem enc facts aimed plan k [] [] w = refl
written_length problem enc facts aimed plan k [] (l ∷ ls) w = absurd w
written_length problem enc facts aimed plan k (p ∷ ps) [] w = absurd w
written_length problem enc facts aimed plan k (p ∷ ps) (l ∷ ls) w = omega (arith, written_length problem enc facts aimed plan (k + 1) ps ls w.1)

pub as_many_files : (problem : Problem) (enc : Encoded) (facts : List Fact) (aimed : Aim) (lines : List Line) (files : List (List ℕ)) → IsDerivation problem enc facts aimed lines files → length files ≡ length lines
as_many_files problem enc facts aimed lines files x = ap length x.files_are ∙ length-map x.plan (part_file problem enc) ∙ written_length problem enc facts aimed x.plan 0 x.plan lines x.written

-- numbers of lines
all_firsts : (P : ℕ → Type 0) (seen xs : List ℕ) → AllByRecursion P xs → AllByRecursion P (firsts_after seen xs)
all_firsts P seen [] h = tt
all_firsts P seen (x ∷ xs) h = go (is_among x seen) (all_firsts P seen xs h.1) (all_firsts P (x ∷ seen) xs h.1)
  where
    go : (b : Bool) → AllByRecursion P (firsts_after seen xs) → AllByRecursion P (firsts_after (x ∷ seen) xs) → AllByRecursion P (if b then firsts_after seen xs else x ∷ firsts_after (x ∷ seen) xs)
    go true old new = old
    go false old new = (h.0, new)

named_within : (plan : List Part) (u : Tree) (steps : List Step) (ws : List LineStep) → AreStepsFor plan u steps ws → AreNumbers (length plan) (map (λ (w : LineStep). w.by) ws)
named_within plan u [] [] s = tt
named_within plan u [] (w ∷ ws) s = absurd s
named_within plan u (step ∷ steps) [] s = absurd s
named_within plan u (step ∷ steps) (w ∷ ws) s = (slice_get_within plan w.by _ s.0.by, named_within plan step.to steps ws s.1)

module _ (table : Table) where
  mutual
    renamed_of : (f : ℕ → ℕ) (t : Tree) → IsOf table t → IsOf table (apply (λ x. var (f x)) t)
    renamed_of f (var x) h = tt
    renamed_of f (app g ts) h = (h.0, count_renamed f ts ∙ h.1, all_renamed_of f ts h.2)

    all_renamed_of : (f : ℕ → ℕ) (ts : Trees) → AreOver (Has table) (arity_of table) (λ _. Unit {0}) ts → AreOver (Has table) (arity_of table) (λ _. Unit {0}) (apply_all (λ x. var (f x)) ts)
    all_renamed_of f none h = tt
    all_renamed_of f (more t ts) h = (renamed_of f t h.0, all_renamed_of f ts h.1)

    count_renamed : (f : ℕ → ℕ) (ts : Trees) → count (apply_all (λ x. var (f x)) ts) ≡ count ts
    count_renamed f none = refl
    count_renamed f (more t ts) = ap (λ n. n + 1) (count_renamed f ts)

  numbered_of : (xs : List ℕ) (t : Tree) → IsOf table t → IsOf table (renumbered_by xs t)
  numbered_of xs t h = renamed_of (place_of xs) t h

  abbrev AllOf : List Step → Type 0
  AllOf steps = AllByRecursion (λ (s : Step). IsOf table s.to) steps

  abbrev pub IsChainOf : Chain → Type 0
  IsChainOf c = IsOf table c.start × AllByRecursion (λ (s : Step). IsOf table s.to) c.steps

  both_of : (ss rs : List Step) → AllOf ss → AllOf rs → AllOf (ss ++ rs)
  both_of [] rs a b = b
  both_of (s ∷ ss) rs a b = (a.0, both_of ss rs a.1 b)

  back_of : (u : Tree) (ss : List Step) → IsOf table u → AllOf ss → AllOf (steps_back u ss)
  back_of u [] h a = tt
  back_of u (s ∷ ss) h a = both_of (steps_back s.to ss) _ (back_of s.to ss a.0 a.1) (h, tt)

  steps_of : (plan : List Part) (xs : List ℕ) (u : Tree) (steps : List Step) (ws : List LineStep) → AllOf steps → AreStepsFor plan u steps ws → AllByRecursion (IsStepOf table (length plan)) (map (renumbered_step xs) ws)
  steps_of plan xs u [] [] a s = tt
  steps_of plan xs u [] (w ∷ ws) a s = absurd s
  steps_of plan xs u (step ∷ steps) [] a s = absurd s
  steps_of plan xs u (step ∷ steps) (w ∷ ws) a s = (
    record { by = slice_get_within plan w.by _ s.0.by; to = numbered_of xs w.to (subst (IsOf table) (sym s.0.to) a.0) },
    steps_of plan xs step.to steps ws a.1 s.1,
  )

  -- what lines are made of
  pub record ArePartsOf (problem : Problem) (enc : Encoded) (facts : List Fact) : Type 0 where
    pub clauses : (c : ℕ) (s : Sourced) → slice_get problem.clauses c ≡ Some s → IsOf table s.clause.left × IsOf table s.clause.right
    pub axioms : (k : ℕ) (e : Equation) → slice_get enc.axioms k ≡ Some e → IsOf table e.left × IsOf table e.right
    pub goals : (k : ℕ) (e : Equation) → slice_get enc.goals k ≡ Some e → IsOf table e.left × IsOf table e.right
    pub fact_sides : (n : ℕ) (fact : Fact) → slice_get facts n ≡ Some fact → IsOf table fact.left × IsOf table fact.right
    pub fact_chains : (n : ℕ) (fact : Fact) → slice_get facts n ≡ Some fact → IsChainOf fact.chain

  abbrev pub IsAimOf : Aim → Type 0
  IsAimOf (aim.Goal chain goal) = IsChainOf chain
  IsAimOf (aim.Facts live) = Unit {0}

  pub conclusion_of_table : (left right : Chain) → IsChainOf left → IsChainOf right → IsChainOf (conclusion_of left right)
  conclusion_of_table left right a b = (a.0, both_of left.steps (steps_back right.start right.steps) a.1 (back_of right.start right.steps b.0 b.1))

  module _ (problem : Problem) (enc : Encoded) (facts : List Fact) (aimed : Aim) (plan : List Part) (are : ArePartsOf problem enc facts) (chains : IsAimOf aimed) where
    line_of : (name : List ℕ) (p : Part) (said : Line) → Says problem enc facts aimed plan name p said → IsLineOf table (length plan) (renumbered_line said)
    line_of name _ _ (says_clause {c = c} {s = s} at there) = let xs = line_variables (clause_line name s.clause) in let ok = are.clauses c s there in record { left = numbered_of xs s.clause.left ok.0; right = numbered_of xs s.clause.right ok.1; source = tt }
    line_of name _ _ (says_denial {c = c} {s = s} there) = let xs = line_variables (clause_line name s.clause) in let ok = are.clauses c s there in record { left = numbered_of xs s.clause.left ok.0; right = numbered_of xs s.clause.right ok.1; source = tt }
    line_of name _ _ (says_reflexive {k = k} {e = e} at h) = let xs = line_variables (equation_line name (Reflexive []) e) in let ok = are.axioms k e h in record { left = numbered_of xs e.left ok.0; right = numbered_of xs e.right ok.1; source = tt }
    line_of name _ _ (says_goal {k = k} {denial = denial} {e = e} at h d) = let xs = line_variables (equation_line name (EncodeGoal (denial ∷ [])) e) in let ok = are.axioms k e h in record { left = numbered_of xs e.left ok.0; right = numbered_of xs e.right ok.1; source = (slice_get_within plan denial _ d, tt) }
    line_of name _ said (says_fact {n = n} {fact = fact} {steps = ws} g a) =
        let xs = line_variables said in
        let sides = are.fact_sides n fact g in
        let chain = are.fact_chains n fact g in
        record {
          left = numbered_of xs fact.left sides.0;
          right = numbered_of xs fact.right sides.1;
          source = (numbered_of xs fact.chain.start chain.0, steps_of plan xs fact.chain.start fact.chain.steps ws chain.1 a, all_firsts (λ n. n < length plan) [] (map (λ (w : LineStep). w.by) ws) (named_within plan fact.chain.start fact.chain.steps ws a));
        }
    line_of name _ said (says_conclusion {chain = way} {goal = goal} {e = e} {steps = ws} is g a) =
        let chain = subst IsAimOf is chains in
        let xs = line_variables said in
        let ok = are.goals goal e g in
        record {
          left = numbered_of xs e.left ok.0;
          right = numbered_of xs e.right ok.1;
          source = (numbered_of xs way.start chain.0, steps_of plan xs way.start way.steps ws chain.1 a, all_firsts (λ n. n < length plan) [] (map (λ (w : LineStep). w.by) ws) (named_within plan way.start way.steps ws a));
        }
    line_of name _ _ (refutes_denied is at d c) = record { left = tt; right = tt; source = (slice_get_within plan _ _ d, (slice_get_within plan _ _ c, tt)) }
    line_of name _ _ (refutes_encoded is at c) = record { left = tt; right = tt; source = (slice_get_within plan _ _ c, tt) }

    lines_of : (k : ℕ) (ps : List Part) (lines : List Line) → AreWritten problem enc facts aimed plan k ps lines → AllByRecursion (IsLineOf table (length plan)) lines
    lines_of k [] [] w = tt
    lines_of k [] (l ∷ ls) w = absurd w
    lines_of k (p ∷ ps) [] w = absurd w
    lines_of k (p ∷ ps) (l ∷ ls) w = (subst (IsLineOf table (length plan)) (sym w.0.line_is) (line_of (line_name k) p w.0.said w.0.says), lines_of (k + 1) ps ls w.1)

  pub proof_lines_of : (problem : Problem) (enc : Encoded) (facts : List Fact) (aimed : Aim) (lines : List Line) (files : List (List ℕ)) → ArePartsOf problem enc facts → IsAimOf aimed → IsDerivation problem enc facts aimed lines files → AreLinesOf table lines
  proof_lines_of problem enc facts aimed lines files are chains x =
      let many = written_length problem enc facts aimed x.plan 0 x.plan lines x.written in
      subst (λ n. AllByRecursion (IsLineOf table n) lines) many (lines_of problem enc facts aimed x.plan are chains 0 x.plan lines x.written)
