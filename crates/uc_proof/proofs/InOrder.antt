-- The variables of a renumbered line are numbered by first occurrence.
use Rattle.std.proofs.Common.{◌≡◌, ℕ, ◌+◌, ◌==◌, ◌||◌, Bool, true, false, List, [], ◌∷◌, ◌++◌, length, map, get_or, if◌then◌else◌, refl, sym, ap, ap₂, ◌∙◌, subst, append_assoc, length-append}
use Rattle.std.specs.List.{flat_map}
use Rattle.std.proofs.lemmas.Bool.{eqb-true, eq-eqb}
use Rattle.std.proofs.lemmas.List.{map-append}
use Rattle.std.proofs.Math.Bool.{or_comm}
use Rattle.uc_term.specs.Tree.{Tree, var, app, Trees, none, more, apply_all}
use Rattle.uc_term.specs.Variables.{variables, variables_all, is_among, firsts, firsts_after, place_of, renumbered_by}
use Rattle.uc_term.proofs.Firsts.{is_among-append, or-false}
use Rattle.uc_check.specs.declared.proof.Line.{Line}
use Rattle.uc_check.specs.declared.proof.LineStep.{LineStep}
use Rattle.uc_check.specs.declared.proof.LineSource.{LineSource}
use Rattle.uc_check.specs.declared.proof.LineSource.TheVariants.{File, Chain, Reflexive, EncodeGoal, Refute}
use Rattle.uc_tstp.specs.Printable.{source_variables, line_variables, renumbered_step, renumbered_source, renumbered_line, CountUp, AreInOrder}
use Rattle.uc_pair.proofs.Names.{place_new}
use Rattle.uc_fact.specs.declared.fact.Fact.{Fact}
use Rattle.uc_problem.specs.declared.problem.Problem.{Problem}
use Rattle.uc_problem.specs.declared.problem.Encoded.{Encoded}
use Rattle.uc_proof.specs.declared.aim.Aim.{Aim}
use Rattle.uc_proof.specs.declared.part.Part.{Part}
use Rattle.uc_proof.specs.Written.{AreWritten}
use Rattle.uc_proof.specs.Extracted.{IsDerivation}
use Rattle.uc_proof.proofs.Renumbered.{place_named, among_firsts, among_behind}

-- names at different places are different
apart : (xs : List ℕ) (x y : ℕ) → is_among x xs ≡ true → is_among y xs ≡ true → (place_of xs x == place_of xs y) ≡ (x == y)
apart xs x y a b = go (x == y) refl (place_of xs x == place_of xs y) refl
  where
    go : (p : Bool) → (x == y) ≡ p → (q : Bool) → (place_of xs x == place_of xs y) ≡ q → q ≡ p
    go true e true f = refl
    go false e false f = refl
    go true e false f =
        let t : (place_of xs x == place_of xs y) ≡ true = eq-eqb (place_of xs x) (place_of xs y) (ap (place_of xs) (eqb-true x y e)) in
        let u : true ≡ false = sym t ∙ f in
        absurd cc
    go false e true f =
        let s : place_of xs x ≡ place_of xs y = eqb-true (place_of xs x) (place_of xs y) f in
        let t : x ≡ y = sym (place_named xs x 0 a) ∙ ap (λ n. get_or xs n 0) s ∙ place_named xs y 0 b in
        let u : true ≡ false = sym (eq-eqb x y t) ∙ e in
        absurd cc

abbrev AllAmong : List ℕ → List ℕ → Type 0
AllAmong xs [] = Unit {0}
AllAmong xs (y ∷ ys) = (is_among y xs ≡ true) × AllAmong xs ys

own : (x : ℕ) (xs : List ℕ) → is_among x (x ∷ xs) ≡ true
own x xs = ap (λ b. b || is_among x xs) (eq-eqb x x refl)

all_among : (xs ys : List ℕ) → ((x : ℕ) → is_among x ys ≡ true → is_among x xs ≡ true) → AllAmong xs ys
all_among xs [] h = tt
all_among xs (y ∷ ys) h = (h y (own y ys), all_among xs ys (λ x e. h x (among_behind (y ∷ []) ys x e)))

module _ (xs : List ℕ) where
  abbrev place : ℕ → ℕ
  place x = place_of xs x

  mapped_among : (x : ℕ) (ys : List ℕ) → is_among x xs ≡ true → AllAmong xs ys → is_among (place x) (map place ys) ≡ is_among x ys
  mapped_among x [] a h = refl
  mapped_among x (y ∷ ys) a h = ap₂ (λ b c. b || c) (apart xs x y a h.0) (mapped_among x ys a h.1)

  mapped_firsts : (seen ys : List ℕ) → AllAmong xs seen → AllAmong xs ys → firsts_after (map place seen) (map place ys) ≡ map place (firsts_after seen ys)
  mapped_firsts seen [] s h = refl
  mapped_firsts seen (y ∷ ys) s h =
      ap (λ b. if b then firsts_after (map place seen) (map place ys) else place y ∷ firsts_after (place y ∷ map place seen) (map place ys)) (mapped_among y seen h.0 s)
      ∙ go (is_among y seen) (mapped_firsts seen ys s h.1) (mapped_firsts (y ∷ seen) ys (h.0, s) h.1)
    where
      go : (b : Bool) → firsts_after (map place seen) (map place ys) ≡ map place (firsts_after seen ys) → firsts_after (place y ∷ map place seen) (map place ys) ≡ map place (firsts_after (y ∷ seen) ys) → (if b then firsts_after (map place seen) (map place ys) else place y ∷ firsts_after (place y ∷ map place seen) (map place ys)) ≡ map place (if b then firsts_after seen ys else y ∷ firsts_after (y ∷ seen) ys)
      go true e f = e
      go false e f = ap (λ l. place y ∷ l) f

  mutual
    renumbered_variables : (t : Tree) → variables (renumbered_by xs t) ≡ map place (variables t)
    renumbered_variables (var x) = refl
    renumbered_variables (app f ts) = all_renumbered_variables ts

    all_renumbered_variables : (ts : Trees) → variables_all (apply_all (λ x. var (place_of xs x)) ts) ≡ map place (variables_all ts)
    all_renumbered_variables none = refl
    all_renumbered_variables (more t ts) = ap₂ (λ a b. a ++ b) (renumbered_variables t) (all_renumbered_variables ts) ∙ sym (map-append place (variables t) (variables_all ts))

  abbrev step_vars : List LineStep → List ℕ
  step_vars ss = flat_map (λ (s : LineStep). variables s.to) ss

  step_variables : (ss : List LineStep) → step_vars (map (renumbered_step xs) ss) ≡ map place (step_vars ss)
  step_variables [] = refl
  step_variables (s ∷ ss) = ap₂ (λ a b. a ++ b) (renumbered_variables s.to) (step_variables ss) ∙ sym (map-append place (variables s.to) (step_vars ss))

  of_source : (s : LineSource) → source_variables (renumbered_source xs s) ≡ map place (source_variables s)
  of_source (File name) = refl
  of_source (Chain start steps parents) = ap₂ (λ a b. a ++ b) (renumbered_variables start) (step_variables steps) ∙ sym (map-append place (variables start) (step_vars steps))
  of_source (Reflexive parents) = refl
  of_source (EncodeGoal parents) = refl
  of_source (Refute parents) = refl

-- the places of the first occurrences count up
counts : (before seen ys : List ℕ) → ((x : ℕ) → is_among x before ≡ is_among x seen) → CountUp (length before) (map (place_of (before ++ firsts_after seen ys)) (firsts_after seen ys))
counts before seen [] same = tt
counts before seen (y ∷ ys) same = go (is_among y seen) refl (counts before seen ys same) (counts (before ++ y ∷ []) (y ∷ seen) ys (λ x. is_among-append x before (y ∷ []) ∙ swap (is_among x before) (x == y) ∙ ap (λ b. (x == y) || b) (same x)))
  where
    swap : (a b : Bool) → (a || (b || false)) ≡ (b || a)
    swap a b = ap (λ z. a || z) (or-false b) ∙ or_comm a b

    go : (b : Bool) → is_among y seen ≡ b → CountUp (length before) (map (place_of (before ++ firsts_after seen ys)) (firsts_after seen ys)) → CountUp (length (before ++ y ∷ [])) (map (place_of ((before ++ y ∷ []) ++ firsts_after (y ∷ seen) ys)) (firsts_after (y ∷ seen) ys)) → CountUp (length before) (map (place_of (before ++ (if b then firsts_after seen ys else y ∷ firsts_after (y ∷ seen) ys))) (if b then firsts_after seen ys else y ∷ firsts_after (y ∷ seen) ys))
    go true e here later = here
    go false e here later =
        let xs = firsts_after (y ∷ seen) ys in
        let long : length (before ++ y ∷ []) ≡ length before + 1 = length-append before (y ∷ []) in
        let all : (before ++ y ∷ []) ++ xs ≡ before ++ y ∷ xs = append_assoc before (y ∷ []) xs in
        (place_new before y xs (same y ∙ e), subst (λ (n : ℕ). CountUp n (map (place_of (before ++ y ∷ xs)) xs)) long (subst (λ (l : List ℕ). CountUp (length (before ++ y ∷ [])) (map (place_of l) xs)) all later))

pub line_in_order : (line : Line) → CountUp 0 (line_variables (renumbered_line line))
line_in_order line =
    let ys : List ℕ = (variables line.left ++ variables line.right) ++ source_variables line.source in
    let xs : List ℕ = firsts ys in
    let sides : variables (renumbered_by xs line.left) ++ variables (renumbered_by xs line.right) ≡ map (place xs) (variables line.left ++ variables line.right) =
    ap₂ (λ a b. a ++ b) (renumbered_variables xs line.left) (renumbered_variables xs line.right) ∙ sym (map-append (place xs) (variables line.left) (variables line.right)) in
    let all : (variables (renumbered_by xs line.left) ++ variables (renumbered_by xs line.right)) ++ source_variables (renumbered_source xs line.source) ≡ map (place xs) ys =
    ap₂ (λ a b. a ++ b) sides (of_source xs line.source) ∙ sym (map-append (place xs) (variables line.left ++ variables line.right) (source_variables line.source)) in
    let is : line_variables (renumbered_line line) ≡ map (place xs) xs = ap firsts all ∙ mapped_firsts xs [] ys tt (all_among xs ys (λ x e. among_firsts ys x e)) in
    subst (CountUp 0) (sym is) (counts [] [] ys (λ x. refl))

module _ (problem : Problem) (enc : Encoded) (facts : List Fact) (aimed : Aim) (plan : List Part) where
  written_in_order : (k : ℕ) (ps : List Part) (lines : List Line) → AreWritten problem enc facts aimed plan k ps lines → AreInOrder lines
  written_in_order k [] [] w = tt
  written_in_order k [] (l ∷ ls) w = absurd w
  written_in_order k (p ∷ ps) [] w = absurd w
  written_in_order k (p ∷ ps) (l ∷ ls) w = (subst (λ (x : Line). CountUp 0 (line_variables x)) (sym w.0.line_is) (line_in_order w.0.said), written_in_order (k + 1) ps ls w.1)

pub derivation_in_order : (problem : Problem) (enc : Encoded) (facts : List Fact) (aimed : Aim) (lines : List Line) (files : List (List ℕ)) → IsDerivation problem enc facts aimed lines files → AreInOrder lines
derivation_in_order problem enc facts aimed lines files x = written_in_order problem enc facts aimed x.plan 0 x.plan lines x.written
