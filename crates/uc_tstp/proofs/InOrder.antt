-- A proof whose variables are numbered by first occurrence stays as it is when they are numbered so.
use Rattle.std.proofs.Common.{◌≡◌, ℕ, ◌+◌, ◌==◌, ◌||◌, Bool, true, false, List, [], ◌∷◌, ◌++◌, map, if◌then◌else◌, refl, sym, ap, ap₂, ◌∙◌, arith}
use Rattle.std.specs.List.{flat_map}
use Rattle.std.proofs.lemmas.Bool.{eqb-true, eq-eqb}
use Rattle.std.proofs.Math.Bool.{or-true}
use Rattle.uc_term.specs.Tree.{Tree, var, app, Trees, none, more, apply_all}
use Rattle.uc_term.specs.Variables.{variables, variables_all, is_among, firsts_after, place_of, renumbered_by}
use Rattle.uc_term.proofs.Firsts.{is_among-append}
use Rattle.uc_check.specs.declared.proof.Proof.{Proof}
use Rattle.uc_check.specs.declared.proof.Line.{Line}
use Rattle.uc_check.specs.declared.proof.LineStep.{LineStep}
use Rattle.uc_check.specs.declared.proof.LineSource.{LineSource}
use Rattle.uc_check.specs.declared.proof.LineSource.TheVariants.{File, Chain, Reflexive, EncodeGoal, Refute}
use Rattle.uc_tstp.specs.Printable.{source_variables, line_variables, renumbered_step, renumbered_source, renumbered_line, renumbered_proof, CountUp, AreInOrder}

-- the place of a number among those that count up
placed : (n : ℕ) (xs : List ℕ) (x : ℕ) → CountUp n xs → is_among x xs ≡ true → place_of xs x + n ≡ x
placed n [] x up e = absurd cc
placed n (y ∷ ys) x up e = go (x == y) refl e (placed (n + 1) ys x up.1)
  where
    go : (b : Bool) → (x == y) ≡ b → (b || is_among x ys) ≡ true → (is_among x ys ≡ true → place_of ys x + (n + 1) ≡ x) → (if b then 0 else place_of ys x + 1) + n ≡ x
    go true same e later = let number : x ≡ y = eqb-true x y same in omega (arith, number, up.0)
    go false other e later = omega (arith, later e)

-- a number that occurs is among the first occurrences
pub among_firsts : (seen ys : List ℕ) (x : ℕ) → is_among x seen ≡ false → is_among x ys ≡ true → is_among x (firsts_after seen ys) ≡ true
among_firsts seen [] x n e = absurd cc
among_firsts seen (y ∷ ys) x n e = go (x == y) refl e (is_among y seen) refl (λ more m h. among_firsts more ys x m h)
  where
    go : (b : Bool) → (x == y) ≡ b → (b || is_among x ys) ≡ true → (c : Bool) → is_among y seen ≡ c → ((more : List ℕ) → is_among x more ≡ false → is_among x ys ≡ true → is_among x (firsts_after more ys) ≡ true) → is_among x (if c then firsts_after seen ys else y ∷ firsts_after (y ∷ seen) ys) ≡ true
    go true same e true old later =
        let number : x ≡ y = eqb-true x y same in
        let both : true ≡ false = sym old ∙ ap (λ z. is_among z seen) (sym number) ∙ n in
        absurd cc
    go true same e false new later = ap (λ b. b || is_among x (firsts_after (y ∷ seen) ys)) same
    go false other e true old later = later seen n e
    go false other e false new later = ap (λ b. b || is_among x (firsts_after (y ∷ seen) ys)) other ∙ later (y ∷ seen) (ap (λ b. b || is_among x seen) other ∙ n) e

abbrev Within : List ℕ → List ℕ → Type 0
Within ys xs = (x : ℕ) → is_among x ys ≡ true → is_among x xs ≡ true

-- The numbers count up from 0.
module _ (xs : List ℕ) (up : CountUp 0 xs) where
  front : (ls rs : List ℕ) → Within (ls ++ rs) xs → Within ls xs
  front ls rs h x e = h x (is_among-append x ls rs ∙ ap (λ c. c || is_among x rs) e)

  behind : (ls rs : List ℕ) → Within (ls ++ rs) xs → Within rs xs
  behind ls rs h x e = h x (is_among-append x ls rs ∙ ap (λ c. is_among x ls || c) e ∙ or-true (is_among x ls))

  itself : (x : ℕ) → is_among x (x ∷ []) ≡ true
  itself x = ap (λ b. b || false) (eq-eqb x x refl)

  mutual
    same_term : (t : Tree) → Within (variables t) xs → renumbered_by xs t ≡ t
    same_term (var x) h = let at = placed 0 xs x up (h x (itself x)) in ap var (omega (arith, at))
    same_term (app f ts) h = ap (app f) (same_terms ts h)

    same_terms : (ts : Trees) → Within (variables_all ts) xs → apply_all (λ x. var (place_of xs x)) ts ≡ ts
    same_terms none h = refl
    same_terms (more t ts) h = ap₂ more (same_term t (front (variables t) (variables_all ts) h)) (same_terms ts (behind (variables t) (variables_all ts) h))

  abbrev step_vars : List LineStep → List ℕ
  step_vars ss = flat_map (λ (s : LineStep). variables s.to) ss

  same_steps : (ss : List LineStep) → Within (step_vars ss) xs → map (renumbered_step xs) ss ≡ ss
  same_steps [] h = refl
  same_steps (s ∷ ss) h =
      ap₂ (λ (t : Tree) rest. record { by = s.by; left_to_right = s.left_to_right; path = s.path; to = t } ∷ rest) (same_term s.to (front (variables s.to) (step_vars ss) h)) (same_steps ss (behind (variables s.to) (step_vars ss) h))

  same_source : (s : LineSource) → Within (source_variables s) xs → renumbered_source xs s ≡ s
  same_source (File name) h = refl
  same_source (Chain start steps parents) h = ap₂ (λ t ss. Chain t ss parents) (same_term start (front (variables start) (step_vars steps) h)) (same_steps steps (behind (variables start) (step_vars steps) h))
  same_source (Reflexive parents) h = refl
  same_source (EncodeGoal parents) h = refl
  same_source (Refute parents) h = refl

same_line : (line : Line) → CountUp 0 (line_variables line) → renumbered_line line ≡ line
same_line line up =
    let xs : List ℕ = line_variables line in
    let sides : List ℕ = variables line.left ++ variables line.right in
    let all : Within (sides ++ source_variables line.source) xs = λ x e. among_firsts [] (sides ++ source_variables line.source) x refl e in
    let of_sides : Within sides xs = front xs up sides (source_variables line.source) all in
    ap₂ (λ (s : LineSource) (p : Tree × Tree). record { name = line.name; source = s; left = p.0; right = p.1; positive = line.positive })
    (same_source xs up line.source (behind xs up sides (source_variables line.source) all))
    (ap₂ (λ (l r : Tree). (l, r)) (same_term xs up line.left (front xs up (variables line.left) (variables line.right) of_sides)) (same_term xs up line.right (behind xs up (variables line.left) (variables line.right) of_sides)))

same_lines : (lines : List Line) → AreInOrder lines → map renumbered_line lines ≡ lines
same_lines [] h = refl
same_lines (l ∷ ls) h = ap₂ (λ x xs. x ∷ xs) (same_line l h.0) (same_lines ls h.1)

pub same_proof : (proof : Proof) → AreInOrder proof.lines → renumbered_proof proof ≡ proof
same_proof proof h = ap (λ (ls : List Line). let p : Proof = record { lines = ls } in p) (same_lines proof.lines h)
