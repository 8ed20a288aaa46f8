-- One proof is extracted.
use Rattle.std.proofs.Common.{◌≡◌, ℕ, zero, suc, ◌+◌, ◌≤◌, Bool, true, false, List, [], ◌∷◌, ◌++◌, length, map, slice_get, Option, Some, None, refl, sym, ap, ap₂, ◌∙◌, subst, arith, if◌then◌else◌}
use Rattle.uc_term.specs.Tree.{Tree}
use Rattle.uc_term.specs.declared.equation.Equation.{Equation}
use Rattle.uc_clause.specs.declared.clause.Sourced.{Sourced}
use Rattle.uc_check.specs.declared.proof.Line.{Line}
use Rattle.uc_check.specs.declared.proof.LineStep.{LineStep}
use Rattle.uc_check.specs.declared.proof.LineSource.TheVariants.{Reflexive, EncodeGoal}
use Rattle.uc_tstp.specs.Printable.{renumbered_line}
use Rattle.uc_fact.specs.declared.chain.Step.{Step}
use Rattle.uc_fact.specs.declared.chain.Chain.{Chain}
use Rattle.uc_fact.specs.declared.fact.Fact.{Fact}
use Rattle.uc_fact.specs.Live.{equation_of}
use Rattle.uc_problem.specs.declared.problem.Problem.{Problem}
use Rattle.uc_problem.specs.declared.problem.Encoded.{Encoded}
use Rattle.uc_problem.specs.declared.problem.Source.{Source}
use Rattle.uc_problem.specs.declared.problem.Source.TheVariants as source
use Rattle.uc_problem.specs.Holds.{numbers_of}
use Rattle.uc_proof.specs.declared.aim.Aim.{Aim}
use Rattle.uc_proof.specs.declared.aim.Aim.TheVariants as aim
use Rattle.uc_proof.specs.declared.part.Part.{Part}
use Rattle.uc_proof.specs.declared.part.Part.TheVariants as part
use Rattle.uc_proof.specs.Needed.{IsNeeded}
use Rattle.uc_proof.specs.Files.{part_file}
use Rattle.uc_proof.specs.Parts.{part_of, is_clause, is_encoding, axioms_where, facts_from, all_parts, Selects, selects_none, selects, passes}
use Rattle.uc_proof.specs.Written.{line_name, clause_line, equation_line, refute_line, chain_source, IsStepFor, AreStepsFor, Says, says_clause, says_denial, says_reflexive, says_goal, says_fact, says_conclusion, refutes_denied, refutes_encoded, AreWritten}
use Rattle.uc_proof.specs.Extracted.{IsEncodingOf, IsDerivation, AreNumbersOf, AreDerivedFacts}
use Rattle.uc_term.proofs.OnePath.{path_once}

plan_once : (Is : Part → Type 0) (ps qs rs : List Part) → Selects Is ps qs → Selects Is ps rs → qs ≡ rs
plan_once Is _ _ _ selects_none selects_none = refl
plan_once Is (p ∷ ps) (_ ∷ qs) (_ ∷ rs) (selects i s) (selects j t) = ap (λ l. p ∷ l) (plan_once Is ps qs rs s t)
plan_once Is (p ∷ ps) (_ ∷ qs) rs (selects i s) (passes j t) = absurd (j i)
plan_once Is (p ∷ ps) qs (_ ∷ rs) (passes i s) (selects j t) = absurd (i j)
plan_once Is (p ∷ ps) qs rs (passes i s) (passes j t) = plan_once Is ps qs rs s t

-- The numbers by which all parts rise: so no part stands twice.
module _ (sources : List Source) (clauses facts : ℕ) where
  abbrev axiom_key : Option Source → ℕ → ℕ
  axiom_key (Some (source.Clause c)) k = k
  axiom_key other k = length sources + clauses + k

  abbrev key : Part → ℕ
  key (part.Axiom k) = axiom_key (slice_get sources k) k
  key (part.Denial c) = length sources + c
  key (part.Fact n) = length sources + clauses + length sources + n
  key part.Conclusion = length sources + clauses + length sources + facts
  key part.Refutation = length sources + clauses + length sources + facts + 1

  abbrev Rises : ℕ → List Part → Type 0
  Rises m [] = Unit {0}
  Rises m (p ∷ ps) = (m ≤ key p) × Rises (key p + 1) ps

  weaker : (m n : ℕ) (ps : List Part) → m ≤ n → Rises n ps → Rises m ps
  weaker m n [] h r = tt
  weaker m n (p ∷ ps) h r = (let l = r.0 in omega arith, r.1)

  at_least : (m : ℕ) (ps : List Part) (i : ℕ) (p : Part) → Rises m ps → slice_get ps i ≡ Some p → m ≤ key p
  at_least m [] i p r e = absurd cc
  at_least m (q ∷ ps) zero p r e = let same : q ≡ p = cc in subst (λ (x : Part). m ≤ key x) same r.0
  at_least m (q ∷ ps) (suc i) p r e = let l = r.0 in let h = at_least (key q + 1) ps i p r.1 e in omega arith

  pub once_at : (m : ℕ) (ps : List Part) (i j : ℕ) (p : Part) → Rises m ps → slice_get ps i ≡ Some p → slice_get ps j ≡ Some p → i ≡ j
  once_at m [] i j p r e f = absurd cc
  once_at m (q ∷ ps) zero zero p r e f = refl
  once_at m (q ∷ ps) zero (suc j) p r e f = let same : q ≡ p = cc in let h = at_least (key q + 1) ps j p r.1 f in absurd (omega (arith, ap key same))
  once_at m (q ∷ ps) (suc i) zero p r e f = let same : q ≡ p = cc in let h = at_least (key q + 1) ps i p r.1 e in absurd (omega (arith, ap key same))
  once_at m (q ∷ ps) (suc i) (suc j) p r e f = ap suc (once_at (key q + 1) ps i j p r.1 e f)

  pub selected_rise : (Is : Part → Type 0) (m : ℕ) (ps qs : List Part) → Selects Is ps qs → Rises m ps → Rises m qs
  selected_rise Is m _ _ selects_none r = tt
  selected_rise Is m (p ∷ ps) (_ ∷ qs) (selects i s) r = (r.0, selected_rise Is (key p + 1) ps qs s r.1)
  selected_rise Is m (p ∷ ps) qs (passes i s) r = selected_rise Is m ps qs s (weaker m (key p + 1) ps (let l = r.0 in omega arith) r.1)

  abbrev Stand : ℕ → List Source → Type 0
  Stand n ss = (j : ℕ) (s : Source) → slice_get ss j ≡ Some s → slice_get sources (n + j) ≡ Some s

  stand_here : (n : ℕ) (s : Source) (ss : List Source) → Stand n (s ∷ ss) → slice_get sources n ≡ Some s
  stand_here n s ss h = let q : n + 0 ≡ n = omega arith in subst (λ (k : ℕ). slice_get sources k ≡ Some s) q (h 0 s refl)

  stand_later : (n : ℕ) (s : Source) (ss : List Source) → Stand n (s ∷ ss) → Stand (n + 1) ss
  stand_later n s ss h j x e = let q : n + suc j ≡ n + 1 + j = omega arith in subst (λ (k : ℕ). slice_get sources k ≡ Some x) q (h (suc j) x e)

  clauses_rise : (n : ℕ) (ss : List Source) (rest : List Part) → Stand n ss → Rises (n + length ss) rest → Rises n (axioms_where is_clause n ss ++ rest)
  clauses_rise n [] rest h r = weaker n (n + 0) rest (omega arith) r
  clauses_rise n (source.Clause c ∷ ss) rest h r =
      let k : key (part.Axiom n) ≡ n = ap (λ o. axiom_key o n) (stand_here n (source.Clause c) ss h) in
      let more = clauses_rise (n + 1) ss rest (stand_later n (source.Clause c) ss h) (weaker (n + 1 + length ss) (n + suc (length ss)) rest (omega arith) r) in
      (omega (arith, k), weaker (key (part.Axiom n) + 1) (n + 1) (axioms_where is_clause (n + 1) ss ++ rest) (omega (arith, k)) more)
  clauses_rise n (source.Reflexive ∷ ss) rest h r = weaker n (n + 1) (axioms_where is_clause (n + 1) ss ++ rest) (omega arith) (clauses_rise (n + 1) ss rest (stand_later n source.Reflexive ss h) (weaker (n + 1 + length ss) (n + suc (length ss)) rest (omega arith) r))
  clauses_rise n (source.Goal c ∷ ss) rest h r = weaker n (n + 1) (axioms_where is_clause (n + 1) ss ++ rest) (omega arith) (clauses_rise (n + 1) ss rest (stand_later n (source.Goal c) ss h) (weaker (n + 1 + length ss) (n + suc (length ss)) rest (omega arith) r))

  abbrev base : ℕ
  base = length sources + clauses

  encoding_rises : (n : ℕ) (s : Source) (ss : List Source) (rest : List Part) → axiom_key (Some s) n ≡ base + n → Stand n (s ∷ ss) → Rises (base + (n + 1)) (axioms_where is_encoding (n + 1) ss ++ rest) → Rises (base + n) (part.Axiom n ∷ axioms_where is_encoding (n + 1) ss ++ rest)
  encoding_rises n s ss rest e h more =
      let k : key (part.Axiom n) ≡ base + n = ap (λ o. axiom_key o n) (stand_here n s ss h) ∙ e in
      (omega (arith, k), weaker (key (part.Axiom n) + 1) (base + (n + 1)) (axioms_where is_encoding (n + 1) ss ++ rest) (omega (arith, k)) more)

  encodings_rise : (n : ℕ) (ss : List Source) (rest : List Part) → Stand n ss → Rises (base + (n + length ss)) rest → Rises (base + n) (axioms_where is_encoding n ss ++ rest)
  encodings_rise n [] rest h r = weaker (base + n) (base + (n + 0)) rest (omega arith) r
  encodings_rise n (source.Clause c ∷ ss) rest h r = weaker (base + n) (base + (n + 1)) (axioms_where is_encoding (n + 1) ss ++ rest) (omega arith) (encodings_rise (n + 1) ss rest (stand_later n (source.Clause c) ss h) (weaker (base + (n + 1 + length ss)) (base + (n + suc (length ss))) rest (omega arith) r))
  encodings_rise n (source.Reflexive ∷ ss) rest h r = encoding_rises n source.Reflexive ss rest refl h (encodings_rise (n + 1) ss rest (stand_later n source.Reflexive ss h) (weaker (base + (n + 1 + length ss)) (base + (n + suc (length ss))) rest (omega arith) r))
  encodings_rise n (source.Goal c ∷ ss) rest h r = encoding_rises n (source.Goal c) ss rest refl h (encodings_rise (n + 1) ss rest (stand_later n (source.Goal c) ss h) (weaker (base + (n + 1 + length ss)) (base + (n + suc (length ss))) rest (omega arith) r))

  goals_rise : (n : ℕ) (ss : List Sourced) (rest : List Part) → Rises (length sources + (n + length ss)) rest → Rises (length sources + n) (map part.Denial (numbers_of false n ss) ++ rest)
  goals_rise n [] rest r = weaker (length sources + n) (length sources + (n + 0)) rest (omega arith) r
  goals_rise n (s ∷ ss) rest r = go s.clause.positive (goals_rise (n + 1) ss rest (weaker (length sources + (n + 1 + length ss)) (length sources + (n + suc (length ss))) rest (omega arith) r))
    where
      go : (b : Bool) → Rises (length sources + (n + 1)) (map part.Denial (numbers_of false (n + 1) ss) ++ rest) → Rises (length sources + n) (map part.Denial (if b then numbers_of false (n + 1) ss else n ∷ numbers_of false (n + 1) ss) ++ rest)
      go true more = weaker (length sources + n) (length sources + (n + 1)) (map part.Denial (numbers_of false (n + 1) ss) ++ rest) (omega arith) more
      go false more = (omega arith, weaker (length sources + n + 1) (length sources + (n + 1)) (map part.Denial (numbers_of false (n + 1) ss) ++ rest) (omega arith) more)

  abbrev top : ℕ
  top = length sources + clauses + length sources

  facts_rise : (n many : ℕ) (rest : List Part) → Rises (top + (n + many)) rest → Rises (top + n) (facts_from n many ++ rest)
  facts_rise n zero rest r = weaker (top + n) (top + (n + 0)) rest (omega arith) r
  facts_rise n (suc many) rest r = (omega arith, weaker (top + n + 1) (top + (n + 1)) (facts_from (n + 1) many ++ rest) (omega arith) (facts_rise (n + 1) many rest (weaker (top + (n + 1 + many)) (top + (n + suc many)) rest (omega arith) r)))

pub parts_rise : (sources : List Source) (clauses : List Sourced) (facts : ℕ) → Rises sources (length clauses) facts 0 (axioms_where is_clause 0 sources ++ (map part.Denial (numbers_of false 0 clauses) ++ (axioms_where is_encoding 0 sources ++ (facts_from 0 facts ++ part.Conclusion ∷ part.Refutation ∷ []))))
parts_rise sources clauses facts =
    let c = length clauses in
    let all : Stand sources c facts 0 sources = λ j s e. let q : 0 + j ≡ j = omega arith in subst (λ (k : ℕ). slice_get sources k ≡ Some s) (sym q) e in
    let ends = part.Conclusion ∷ part.Refutation ∷ [] in
    let fs = facts_from 0 facts ++ ends in
    let es = axioms_where is_encoding 0 sources ++ fs in
    let ds = map part.Denial (numbers_of false 0 clauses) ++ es in
    let e : Rises sources c facts (top sources c facts + (0 + facts)) ends = (omega arith, (omega arith, tt)) in
    let f : Rises sources c facts (base sources c facts + (0 + length sources)) fs = weaker sources c facts (base sources c facts + (0 + length sources)) (top sources c facts + 0) fs (omega arith) (facts_rise sources c facts 0 facts ends e) in
    let g : Rises sources c facts (length sources + (0 + c)) es = weaker sources c facts (length sources + (0 + c)) (base sources c facts + 0) es (omega arith) (encodings_rise sources c facts 0 sources fs all f) in
    let d : Rises sources c facts (0 + length sources) ds = weaker sources c facts (0 + length sources) (length sources + 0) ds (omega arith) (goals_rise sources c facts 0 clauses es g) in
    clauses_rise sources c facts 0 sources ds all d

module _ (plan : List Part) (one : (i j : ℕ) (p : Part) → slice_get plan i ≡ Some p → slice_get plan j ≡ Some p → i ≡ j) where
  step_once : (u : Tree) (step : Step) (v w : LineStep) → IsStepFor plan u step v → IsStepFor plan u step w → v ≡ w
  step_once u step v w a b =
      let by = one v.by w.by (part_of step.by) a.by b.by in
      let way : v.left_to_right ≡ w.left_to_right = a.way ∙ sym b.way in
      let path = path_once u v.path w.path step.position.0 a.path b.path in
      let to : v.to ≡ w.to = a.to ∙ sym b.to in
      ap₂ (λ (x : ℕ × Bool) (y : List ℕ × Tree). record { by = x.0; left_to_right = x.1; path = y.0; to = y.1 }) (ap₂ (λ (x : ℕ) (y : Bool). (x, y)) by way) (ap₂ (λ (x : List ℕ) (y : Tree). (x, y)) path to)

  steps_once : (u : Tree) (steps : List Step) (vs ws : List LineStep) → AreStepsFor plan u steps vs → AreStepsFor plan u steps ws → vs ≡ ws
  steps_once u [] [] [] a b = refl
  steps_once u [] [] (w ∷ ws) a b = absurd b
  steps_once u [] (v ∷ vs) ws a b = absurd a
  steps_once u (s ∷ ss) [] ws a b = absurd a
  steps_once u (s ∷ ss) (v ∷ vs) [] a b = absurd b
  steps_once u (s ∷ ss) (v ∷ vs) (w ∷ ws) a b = ap₂ (λ x xs. x ∷ xs) (step_once u s v w a.0 b.0) (steps_once s.to ss vs ws a.1 b.1)

  module _ (problem : Problem) (enc : Encoded) (facts : List Fact) (aimed : Aim) (name : List ℕ) where
    abbrev Said : Part → Line → Type 0
    Said p l = Says problem enc facts aimed plan name p l

    said_once : (p : Part) (a b : Line) → Said p a → Said p b → a ≡ b
    said_once _ _ b (says_clause {k} {c} {s} at there) y = go b y
      where
        go : (b : Line) → Said (part.Axiom k) b → clause_line name s.clause ≡ b
        go _ (says_clause {c = c'} {s = s'} at' there') =
            let n : c ≡ c' = let z : Some (source.Clause c) ≡ Some (source.Clause c') = sym at ∙ at' in cc in
            let q : s ≡ s' = let z : Some s ≡ Some s' = sym there ∙ ap (slice_get problem.clauses) n ∙ there' in cc in
            ap (λ (x : Sourced). clause_line name x.clause) q
        go _ (says_reflexive at' h) = let z : Some (source.Clause c) ≡ Some source.Reflexive = sym at ∙ at' in absurd cc
        go _ (says_goal {c = c'} at' h d) = let z : Some (source.Clause c) ≡ Some (source.Goal c') = sym at ∙ at' in absurd cc
    said_once _ _ b (says_denial {c} {s} there) y = go b y
      where
        go : (b : Line) → Said (part.Denial c) b → clause_line name s.clause ≡ b
        go _ (says_denial {s = s'} there') = let q : s ≡ s' = let z : Some s ≡ Some s' = sym there ∙ there' in cc in ap (λ (x : Sourced). clause_line name x.clause) q
    said_once _ _ b (says_reflexive {k} {e} at h) y = go b y
      where
        go : (b : Line) → Said (part.Axiom k) b → equation_line name (Reflexive []) e ≡ b
        go _ (says_clause {c = c'} at' there') = let z : Some source.Reflexive ≡ Some (source.Clause c') = sym at ∙ at' in absurd cc
        go _ (says_reflexive {e = e'} at' h') = let q : e ≡ e' = let z : Some e ≡ Some e' = sym h ∙ h' in cc in ap (equation_line name (Reflexive [])) q
        go _ (says_goal {c = c'} at' h' d) = let z : Some source.Reflexive ≡ Some (source.Goal c') = sym at ∙ at' in absurd cc
    said_once _ _ b (says_goal {k} {c} {denial} {e} at h d) y = go b y
      where
        go : (b : Line) → Said (part.Axiom k) b → equation_line name (EncodeGoal (denial ∷ [])) e ≡ b
        go _ (says_clause {c = c'} at' there') = let z : Some (source.Goal c) ≡ Some (source.Clause c') = sym at ∙ at' in absurd cc
        go _ (says_reflexive at' h') = let z : Some (source.Goal c) ≡ Some source.Reflexive = sym at ∙ at' in absurd cc
        go _ (says_goal {c = c'} {denial = denial'} {e = e'} at' h' d') =
            let n : c ≡ c' = let z : Some (source.Goal c) ≡ Some (source.Goal c') = sym at ∙ at' in cc in
            let q : e ≡ e' = let z : Some e ≡ Some e' = sym h ∙ h' in cc in
            let m : denial ≡ denial' = one denial denial' (part.Denial c) d (d' ∙ ap (λ x. Some (part.Denial x)) (sym n)) in
            ap₂ (λ (x : ℕ) (y : Equation). equation_line name (EncodeGoal (x ∷ [])) y) m q
    said_once _ _ b (says_fact {n} {fact} {steps} g a) y = go b y
      where
        go : (b : Line) → Said (part.Fact n) b → equation_line name (chain_source fact.chain.start steps) (equation_of fact) ≡ b
        go _ (says_fact {fact = fact'} {steps = steps'} g' a') =
            let q : fact ≡ fact' = let z : Some fact ≡ Some fact' = sym g ∙ g' in cc in
            let s : steps ≡ steps' = steps_once fact.chain.start fact.chain.steps steps steps' a (subst (λ (x : Fact). AreStepsFor plan x.chain.start x.chain.steps steps') (sym q) a') in
            ap₂ (λ (x : Fact) (y : List LineStep). equation_line name (chain_source x.chain.start y) (equation_of x)) q s
    said_once _ _ b (says_conclusion {chain = way} {goal} {e} {steps} is g a) y = go b y
      where
        go : (b : Line) → Said part.Conclusion b → equation_line name (chain_source way.start steps) e ≡ b
        go _ (says_conclusion {chain = way'} {goal = goal'} {e = e'} {steps = steps'} is' g' a') =
            let z : aim.Goal way goal ≡ aim.Goal way' goal' = sym is ∙ is' in
            let w : way ≡ way' = cc in
            let m : goal ≡ goal' = cc in
            let q : e ≡ e' = let z : Some e ≡ Some e' = sym g ∙ ap (slice_get enc.goals) m ∙ g' in cc in
            let s : steps ≡ steps' = steps_once way.start way.steps steps steps' a (subst (λ (x : Chain). AreStepsFor plan x.start x.steps steps') (sym w) a') in
            ap₂ (λ (x : Equation × Chain) (y : List LineStep). equation_line name (chain_source x.1.start y) x.0) (ap₂ (λ (x : Equation) (y : Chain). (x, y)) q w) s
    said_once _ _ b (refutes_denied {chain = way} {goal} {c} {denial} {proved = chain} is at d h) y = go b y
      where
        go : (b : Line) → Said part.Refutation b → refute_line name (denial ∷ chain ∷ []) ≡ b
        go _ (refutes_denied {chain = way'} {goal = goal'} {c = c'} {denial = denial'} {proved = chain'} is' at' d' h') =
            let k : goal ≡ goal' = let z : aim.Goal way goal ≡ aim.Goal way' goal' = sym is ∙ is' in cc in
            let n : c ≡ c' = let z : Some (Some c) ≡ Some (Some c') = sym at ∙ ap (slice_get enc.goal_clauses) k ∙ at' in cc in
            let m : denial ≡ denial' = one denial denial' (part.Denial c) d (d' ∙ ap (λ x. Some (part.Denial x)) (sym n)) in
            ap₂ (λ x y. refute_line name (x ∷ y ∷ [])) m (one chain chain' part.Conclusion h h')
        go _ (refutes_encoded {chain = way'} {goal = goal'} is' at' h') =
            let k : goal ≡ goal' = let z : aim.Goal way goal ≡ aim.Goal way' goal' = sym is ∙ is' in cc in
            let z : Some (Some c) ≡ Some None = sym at ∙ ap (slice_get enc.goal_clauses) k ∙ at' in absurd cc
    said_once _ _ b (refutes_encoded {chain = way} {goal} {proved = chain} is at h) y = go b y
      where
        go : (b : Line) → Said part.Refutation b → refute_line name (chain ∷ []) ≡ b
        go _ (refutes_denied {chain = way'} {goal = goal'} {c = c'} is' at' d' h') =
            let k : goal ≡ goal' = let z : aim.Goal way goal ≡ aim.Goal way' goal' = sym is ∙ is' in cc in
            let z : Some None ≡ Some (Some c') = sym at ∙ ap (slice_get enc.goal_clauses) k ∙ at' in absurd cc
        go _ (refutes_encoded {proved = chain'} is' at' h') = ap (λ x. refute_line name (x ∷ [])) (one chain chain' part.Conclusion h h')

  module _ (problem : Problem) (enc : Encoded) (facts : List Fact) (aimed : Aim) where
    lines_once : (k : ℕ) (ps : List Part) (xs ys : List Line) → AreWritten problem enc facts aimed plan k ps xs → AreWritten problem enc facts aimed plan k ps ys → xs ≡ ys
    lines_once k [] [] [] a b = refl
    lines_once k [] [] (y ∷ ys) a b = absurd b
    lines_once k [] (x ∷ xs) ys a b = absurd a
    lines_once k (p ∷ ps) [] ys a b = absurd a
    lines_once k (p ∷ ps) (x ∷ xs) [] a b = absurd b
    lines_once k (p ∷ ps) (x ∷ xs) (y ∷ ys) a b =
        ap₂ (λ z zs. z ∷ zs) (a.0.line_is ∙ ap renumbered_line (said_once problem enc facts aimed (line_name k) p a.0.said b.0.said a.0.says b.0.says) ∙ sym b.0.line_is) (lines_once (k + 1) ps xs ys a.1 b.1)

module _ (problem : Problem) (enc : Encoded) (facts : List Fact) (aimed : Aim) (is : IsEncodingOf problem enc) where
  plans_once : (xs ys : List Line) (fs gs : List (List ℕ)) (a : IsDerivation problem enc facts aimed xs fs) (b : IsDerivation problem enc facts aimed ys gs) → a.plan ≡ b.plan
  plans_once xs ys fs gs a b = plan_once (IsNeeded enc facts aimed) (all_parts problem enc (length facts)) a.plan b.plan a.selected b.selected

  -- a part stands at one place of a plan
  one_place : (xs : List Line) (fs : List (List ℕ)) (a : IsDerivation problem enc facts aimed xs fs) (i j : ℕ) (p : Part) → slice_get a.plan i ≡ Some p → slice_get a.plan j ≡ Some p → i ≡ j
  one_place xs fs a i j p e f =
      let rise : Rises enc.sources (length problem.clauses) (length facts) 0 (all_parts problem enc (length facts)) =
      subst (λ (cs : List ℕ). Rises enc.sources (length problem.clauses) (length facts) 0 (axioms_where is_clause 0 enc.sources ++ (map part.Denial cs ++ (axioms_where is_encoding 0 enc.sources ++ (facts_from 0 (length facts) ++ part.Conclusion ∷ part.Refutation ∷ []))))) (sym is.agrees.goals) (parts_rise enc.sources problem.clauses (length facts)) in
      let rises = selected_rise enc.sources (length problem.clauses) (length facts) (IsNeeded enc facts aimed) 0 (all_parts problem enc (length facts)) a.plan a.selected rise in
      once_at enc.sources (length problem.clauses) (length facts) 0 a.plan i j p rises e f

  pub derived_once : (xs ys : List Line) (fs gs : List (List ℕ)) → IsDerivation problem enc facts aimed xs fs → IsDerivation problem enc facts aimed ys gs → (xs ≡ ys) × (fs ≡ gs)
  derived_once xs ys fs gs a b =
      let plan : a.plan ≡ b.plan = plans_once xs ys fs gs a b in
      let written : AreWritten problem enc facts aimed a.plan 0 a.plan ys = subst (λ (ps : List Part). AreWritten problem enc facts aimed ps 0 ps ys) (sym plan) b.written in
      (lines_once a.plan (one_place xs fs a) problem enc facts aimed 0 a.plan xs ys a.written written, a.files_are ∙ ap (map (part_file problem enc)) plan ∙ sym b.files_are)

numbers_once : (plan : List Part) → ((i j : ℕ) (p : Part) → slice_get plan i ≡ Some p → slice_get plan j ≡ Some p → i ≡ j) → (live ns ms : List ℕ) → AreNumbersOf plan live ns → AreNumbersOf plan live ms → ns ≡ ms
numbers_once plan one [] [] [] a b = refl
numbers_once plan one [] [] (m ∷ ms) a b = absurd b
numbers_once plan one [] (n ∷ ns) ms a b = absurd a
numbers_once plan one (l ∷ live) [] ms a b = absurd a
numbers_once plan one (l ∷ live) (n ∷ ns) [] a b = absurd b
numbers_once plan one (l ∷ live) (n ∷ ns) (m ∷ ms) a b = ap₂ (λ k ks. k ∷ ks) (one n m (part.Fact l) a.0 b.0) (numbers_once plan one live ns ms a.1 b.1)

-- the derivation of facts is one, and so are the numbers of their lines
pub facts_once : (problem : Problem) (enc : Encoded) (facts : List Fact) (live : List ℕ) (xs ys : List Line) (fs gs : List (List ℕ)) (ns ms : List ℕ) → IsEncodingOf problem enc → AreDerivedFacts problem enc facts live xs fs ns → AreDerivedFacts problem enc facts live ys gs ms → (xs ≡ ys) × (fs ≡ gs) × (ns ≡ ms)
facts_once problem enc facts live xs ys fs gs ns ms is a b =
    let aimed = aim.Facts live in
    let same = derived_once problem enc facts aimed is xs ys fs gs a.derivation b.derivation in
    let plan = plans_once problem enc facts aimed is xs ys fs gs a.derivation b.derivation in
    let numbers = subst (λ (ps : List Part). AreNumbersOf ps live ms) (sym plan) b.numbers_are in
    (same.0, same.1, numbers_once a.derivation.plan (one_place problem enc facts aimed is xs fs a.derivation) live ns ms a.numbers_are numbers)
