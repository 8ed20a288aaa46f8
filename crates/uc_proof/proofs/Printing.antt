-- An extracted proof can be printed where what it is made of can.
use Rattle.std.proofs.Common.{◌≡◌, ℕ, zero, suc, ◌+◌, ◌<◌, ◌≤◌, ◌^◌, ◌||◌, Bool, true, false, List, [], ◌∷◌, ◌++◌, length, map, Option, Some, None, option_and_then, refl, sym, ap, ◌∙◌, subst, arith}
use Rattle.std.specs.Prelude.{decimal, bytes_eq}
use Rattle.std.specs.List.{list_any, AllByRecursion}
use Rattle.std.specs.Str.Parse.{digits_value}
use Rattle.std.specs.Cmp.Lexicographic.{bytes_decides}
use Rattle.std.proofs.lemmas.Fmt.{decimal_is_IsNumeral}
use Rattle.uc_term.specs.declared.node.Sym.{Sym}
use Rattle.uc_term.specs.Tree.{Tree, var, app, Trees, none, more, count, apply, apply_all, subterm}
use Rattle.uc_term.specs.Over.{AreOver, IsTerm}
use Rattle.uc_term.specs.Path.{nth, written_argument, at_position}
use Rattle.uc_term.specs.Table.{Table, arity_of}
use Rattle.uc_term.specs.Variables.{place_of, renumbered_by}
use Rattle.uc_clause.specs.Bytes.{is_name}
use Rattle.uc_clause.specs.Names.{IsSpellable}
use Rattle.uc_clause.specs.Printable.{IsPrintable, IsPrintableSymbol}
use Rattle.uc_clause.proofs.Printed.{number_words}
use Rattle.uc_check.specs.declared.proof.Line.{Line}
use Rattle.uc_check.specs.declared.proof.LineStep.{LineStep}
use Rattle.uc_check.specs.declared.proof.LineSource.TheVariants.{Reflexive, EncodeGoal}
use Rattle.uc_tstp.specs.Printing.{names_in}
use Rattle.uc_tstp.specs.Printable.{AreLineNames, IsPath, IsPrintableStep, IsPrintableLine, ArePrintableLines, line_variables, renumbered_step, renumbered_line}
use Rattle.uc_fact.specs.declared.chain.Step.{Step}
use Rattle.uc_fact.specs.declared.chain.Chain.{Chain}
use Rattle.uc_fact.specs.declared.fact.Fact.{Fact}
use Rattle.uc_problem.specs.declared.problem.Problem.{Problem}
use Rattle.uc_problem.specs.declared.problem.Encoded.{Encoded}
use Rattle.uc_proof.specs.declared.aim.Aim.{Aim}
use Rattle.uc_proof.specs.declared.part.Part.{Part}
use Rattle.uc_proof.specs.declared.part.Part.TheVariants as part
use Rattle.uc_fact.specs.Chains.{steps_back}
use Rattle.uc_proof.specs.Chains.{conclusion_of}
use Rattle.uc_proof.specs.Files.{clause_file, source_file, part_file}
use Rattle.uc_proof.specs.Written.{line_name, clause_line, equation_line, AreStepsFor, Says, says_clause, says_denial, says_reflexive, says_goal, says_fact, says_conclusion, refutes_denied, refutes_encoded, AreWritten}
use Rattle.uc_proof.specs.Printable.{IsPrintableChain, IsPrintableAim, ArePrintableParts}
use Rattle.uc_proof.specs.Extracted.{IsDerivation}

-- names
same_number : (m n : ℕ) → m < 2 ^ 32 → n < 2 ^ 32 → line_name m ≡ line_name n → m ≡ n
same_number m n a b e =
    let d : decimal (m + 1) ≡ decimal (n + 1) = cc in
    let x = (decimal_is_IsNumeral (m + 1) (omega arith)).1 in
    let y = (decimal_is_IsNumeral (n + 1) (omega arith)).1 in
    let z : m + 1 ≡ n + 1 = sym x ∙ ap (digits_value 10) d ∙ y in
    omega (arith, z)

-- the names of the lines before a number
abbrev names_below : ℕ → List (List ℕ)
names_below zero = []
names_below (suc k) = line_name k ∷ names_below k

new_name : (k n : ℕ) → k ≤ n → n < 2 ^ 32 → list_any (bytes_eq (line_name n)) (names_below k) ≡ false
new_name zero n l h = refl
new_name (suc k) n l h = go (bytes_eq (line_name n) (line_name k)) refl (new_name k n (omega arith) h)
  where
    go : (b : Bool) → bytes_eq (line_name n) (line_name k) ≡ b → list_any (bytes_eq (line_name n)) (names_below k) ≡ false → (b || list_any (bytes_eq (line_name n)) (names_below k)) ≡ false
    go true e rest = let q = same_number n k h (omega arith) ((bytes_decides (line_name n) (line_name k)).0 e) in absurd (omega (arith, q))
    go false e rest = rest

-- a renamed term has the symbols of the term
module _ (has : Sym → Type 0) (arity : Sym → ℕ) (f : ℕ → ℕ) where
  mutual
    renamed_term : (t : Tree) → IsTerm has arity t → IsTerm has arity (apply (λ x. var (f x)) t)
    renamed_term (var x) h = tt
    renamed_term (app g ts) h = (h.0, count_renamed ts ∙ h.1, renamed_terms ts h.2)

    renamed_terms : (ts : Trees) → AreOver has arity (λ _. Unit {0}) ts → AreOver has arity (λ _. Unit {0}) (apply_all (λ x. var (f x)) ts)
    renamed_terms none h = tt
    renamed_terms (more t ts) h = (renamed_term t h.0, renamed_terms ts h.1)

    count_renamed : (ts : Trees) → count (apply_all (λ x. var (f x)) ts) ≡ count ts
    count_renamed none = refl
    count_renamed (more t ts) = ap (λ n. n + 1) (count_renamed ts)

module _ (table : Table) where
  numbered : (xs : List ℕ) (t : Tree) → IsPrintable table t → IsPrintable table (renumbered_by xs t)
  numbered xs t h = renamed_term (IsPrintableSymbol table) (arity_of table) (place_of xs) t h

  -- paths have the numbers of arguments
  nth_within : (ts : Trees) (i : ℕ) (t : Tree) → nth ts i ≡ Some t → AreOver (IsPrintableSymbol table) (arity_of table) (λ _. Unit {0}) ts → (i < count ts) × IsPrintable table t
  nth_within none i t e h = absurd cc
  nth_within (more u ts) zero t e h = (omega arith, subst (IsPrintable table) (let q : u ≡ t = cc in q) h.0)
  nth_within (more u ts) (suc i) t e h = let r = nth_within ts i t e h.1 in (let l = r.0 in omega arith, r.1)

  argument_within : (t : Tree) (i : ℕ) (u : Tree) → written_argument t i ≡ Some u → IsPrintable table t → (1 ≤ i) × (i ≤ 255) × IsPrintable table u
  argument_within t zero u e h = absurd cc
  argument_within (var x) (suc i) u e h = absurd cc
  argument_within (app f ts) (suc i) u e h = let r = nth_within ts i u e h.2 in (omega arith, omega (arith, r.0, h.1, h.0.2), r.1)

  at_rest : (o : Option Tree) (p : List ℕ) (u : Tree) → option_and_then (λ v. at_position v p) o ≡ Some u → (a : Tree) × (o ≡ Some a) × (at_position a p ≡ Some u)
  at_rest None p u e = cc
  at_rest (Some a) p u e = (a, refl, e)

  path_within : (p : List ℕ) (t u : Tree) → at_position t p ≡ Some u → IsPrintable table t → IsPath p
  path_within [] t u e h = tt
  path_within (i ∷ p) t u e h =
      let s = at_rest (written_argument t i) p u e in
      let r = argument_within t i s.0 s.1 h in
      ((r.0, r.1), path_within p s.0 u s.2 r.2)

  -- steps of a chain
  abbrev All : List Step → Type 0
  All steps = AllByRecursion (λ (s : Step). IsPrintable table s.to) steps

  all_both : (ss rs : List Step) → All ss → All rs → All (ss ++ rs)
  all_both [] rs a b = b
  all_both (s ∷ ss) rs a b = (a.0, all_both ss rs a.1 b)

  all_back : (u : Tree) (ss : List Step) → IsPrintable table u → All ss → All (steps_back u ss)
  all_back u [] h a = tt
  all_back u (s ∷ ss) h a = all_both (steps_back s.to ss) _ (all_back s.to ss a.0 a.1) (h, tt)

  pub conclusion_printable : (left right : Chain) → IsPrintableChain table left → IsPrintableChain table right → IsPrintableChain table (conclusion_of left right)
  conclusion_printable left right a b = (a.0, all_both left.steps (steps_back right.start right.steps) a.1 (all_back right.start right.steps b.0 b.1))

  steps_printable : (plan : List Part) (xs : List ℕ) (u : Tree) (steps : List Step) (ws : List LineStep) → IsPrintable table u → All steps → AreStepsFor plan u steps ws → AllByRecursion (IsPrintableStep table) (map (renumbered_step xs) ws)
  steps_printable plan xs u [] [] h a s = tt
  steps_printable plan xs u [] (w ∷ ws) h a s = absurd s
  steps_printable plan xs u (step ∷ steps) [] h a s = absurd s
  steps_printable plan xs u (step ∷ steps) (w ∷ ws) h a s = (
    record {
      path = path_within w.path u (subterm u step.position.0) s.0.path.there h;
      to = numbered xs w.to (subst (IsPrintable table) (sym s.0.to) a.0);
    },
    steps_printable plan xs step.to steps ws a.0 a.1 s.1,
  )

  module _ (problem : Problem) (enc : Encoded) (facts : List Fact) (aimed : Aim) (plan : List Part) (can : ArePrintableParts table problem enc facts) (chains : IsPrintableAim table aimed) where
    line_printable : (name : List ℕ) (p : Part) (said : Line) → Says problem enc facts aimed plan name p said → IsPrintableLine table (part_file problem enc p) (renumbered_line said)
    line_printable name _ _ (says_clause {k} {c} {s} at there) =
        let said = clause_line name s.clause in
        let xs = line_variables said in
        let ok = can.clauses c s there in
        let file : part_file problem enc (part.Axiom k) ≡ s.file = ap (source_file problem) at ∙ ap clause_file there in
        record { body = (numbered xs s.clause.left ok.1.1, numbered xs s.clause.right ok.1.2); source = (subst IsSpellable (sym file) ok.0, ok.1.0) }
    line_printable name _ _ (says_denial {c} {s} there) =
        let said = clause_line name s.clause in
        let xs = line_variables said in
        let ok = can.clauses c s there in
        record { body = (numbered xs s.clause.left ok.1.1, numbered xs s.clause.right ok.1.2); source = (subst IsSpellable (sym (ap clause_file there)) ok.0, ok.1.0) }
    line_printable name _ _ (says_reflexive {k} {e} at h) =
        let xs = line_variables (equation_line name (Reflexive []) e) in
        let ok = can.axioms k e h in
        record { body = (refl, numbered xs e.left ok.0, numbered xs e.right ok.1); source = tt }
    line_printable name _ _ (says_goal {k} {c} {denial} {e} at h d) =
        let xs = line_variables (equation_line name (EncodeGoal (denial ∷ [])) e) in
        let ok = can.axioms k e h in
        record { body = (refl, numbered xs e.left ok.0, numbered xs e.right ok.1); source = tt }
    line_printable name _ said (says_fact {n} {fact} {steps = ws} g a) =
        let xs = line_variables said in
        let sides = can.fact_sides n fact g in
        let chain = can.fact_chains n fact g in
        record {
          body = (refl, numbered xs fact.left sides.0, numbered xs fact.right sides.1);
          source = (numbered xs fact.chain.start chain.0, steps_printable plan xs fact.chain.start fact.chain.steps ws chain.0 chain.1 a);
        }
    line_printable name _ said (says_conclusion {chain = conclusion} {goal} {e} {steps = ws} is g a) =
        let xs = line_variables said in
        let ok = can.goals goal e g in
        let chain = subst (IsPrintableAim table) is chains in
        record {
          body = (refl, numbered xs e.left ok.0, numbered xs e.right ok.1);
          source = (numbered xs conclusion.start chain.0, steps_printable plan xs conclusion.start conclusion.steps ws chain.0 chain.1 a);
        }
    line_printable name _ _ (refutes_denied is at d c) = record { body = (refl, refl, refl); source = tt }
    line_printable name _ _ (refutes_encoded is at c) = record { body = (refl, refl, refl); source = tt }

    lines_printable : (k : ℕ) (ps : List Part) (lines : List Line) → AreWritten problem enc facts aimed plan k ps lines → ArePrintableLines table (map (part_file problem enc) ps) lines
    lines_printable k [] [] w = tt
    lines_printable k [] (l ∷ ls) w = absurd w
    lines_printable k (p ∷ ps) [] w = absurd w
    lines_printable k (p ∷ ps) (l ∷ ls) w = (subst (IsPrintableLine table (part_file problem enc p)) (sym w.0.line_is) (line_printable (line_name k) p w.0.said w.0.says), lines_printable (k + 1) ps ls w.1)

module _ (problem : Problem) (enc : Encoded) (facts : List Fact) (aimed : Aim) (plan : List Part) where
  said_name : (name : List ℕ) (p : Part) (said : Line) → Says problem enc facts aimed plan name p said → said.name ≡ name
  said_name name _ _ (says_clause at there) = refl
  said_name name _ _ (says_denial there) = refl
  said_name name _ _ (says_reflexive at h) = refl
  said_name name _ _ (says_goal at h d) = refl
  said_name name _ _ (says_fact g a) = refl
  said_name name _ _ (says_conclusion is g a) = refl
  said_name name _ _ (refutes_denied is at d c) = refl
  said_name name _ _ (refutes_encoded is at c) = refl

  line_names : (k : ℕ) (ps : List Part) (lines : List Line) → AreWritten problem enc facts aimed plan k ps lines → k + length ps < 2 ^ 32 → AreLineNames (names_below k) (names_in lines)
  line_names k [] [] w h = tt
  line_names k [] (l ∷ ls) w h = absurd w
  line_names k (p ∷ ps) [] w h = absurd w
  line_names k (p ∷ ps) (l ∷ ls) w h =
      let name : line_name k ≡ l.name = sym (ap (λ (x : Line). x.name) w.0.line_is ∙ said_name (line_name k) p w.0.said w.0.says) in
      let below : names_below (k + 1) ≡ l.name ∷ names_below k = (let q : k + 1 ≡ suc k = omega arith in ap names_below q) ∙ ap (λ n. n ∷ names_below k) name in
      (subst (λ (n : List ℕ). is_name n ≡ true) name (number_words k (omega arith)), subst (λ (n : List ℕ). list_any (bytes_eq n) (names_below k) ≡ false) name (new_name k k (omega arith) (omega arith)), subst (λ (ns : List (List ℕ)). AreLineNames ns (names_in ls)) below (line_names (k + 1) ps ls w.1 (omega arith)))

pub printable_lines : (table : Table) (problem : Problem) (enc : Encoded) (facts : List Fact) (aimed : Aim) (lines : List Line) (files : List (List ℕ)) → IsDerivation problem enc facts aimed lines files → ArePrintableParts table problem enc facts → IsPrintableAim table aimed → ArePrintableLines table files lines
printable_lines table problem enc facts aimed lines files x can chains =
    subst (λ (fs : List (List ℕ)). ArePrintableLines table fs lines) (sym x.files_are) (lines_printable table problem enc facts aimed x.plan can chains 0 x.plan lines x.written)

pub names_of_lines : (problem : Problem) (enc : Encoded) (facts : List Fact) (aimed : Aim) (lines : List Line) (files : List (List ℕ)) (x : IsDerivation problem enc facts aimed lines files) → length x.plan < 2 ^ 32 → AreLineNames [] (names_in lines)
names_of_lines problem enc facts aimed lines files x few = line_names problem enc facts aimed x.plan 0 x.plan lines x.written (omega arith)
