-- How steps, parents and lines are written one by one.
use Rattle.std.proofs.Common.{◌≡◌, ℕ, zero, suc, ◌+◌, ◌<◌, ◌≤◌, ◌==◌, Bool, true, false, List, [], ◌∷◌, ◌++◌, length, map, take, drop, get_or, refl, sym, ap, ◌∙◌, subst, arith, append_assoc, append-nil, inl, inr, if◌then◌else◌}
use Rattle.std.specs.List.{list_any}
use Rattle.std.proofs.lemmas.List.{map-append, take_more}
use Rattle.uc_term.specs.Tree.{Tree, nodes}
use Rattle.uc_term.specs.Variables.{is_among, firsts, firsts_after}
use Rattle.uc_term.proofs.Firsts.{firsts-append}
use Rattle.uc_term.proofs.NodeVars.{list_any-among}
use Rattle.uc_check.specs.declared.proof.Line.{Line}
use Rattle.uc_check.specs.declared.proof.LineStep.{LineStep}
use Rattle.uc_pair.proofs.Names.{known_adds_none, new_adds_one}
use Rattle.uc_fact.specs.declared.chain.Step.{Step}
use Rattle.uc_fact.specs.declared.chain.Chain.{Chain}
use Rattle.uc_fact.specs.declared.fact.Fact.{Fact}
use Rattle.uc_fact.specs.Chains.{last_term, step_back, steps_back}
use Rattle.uc_problem.specs.declared.problem.Problem.{Problem}
use Rattle.uc_problem.specs.declared.problem.Encoded.{Encoded}
use Rattle.uc_proof.specs.declared.aim.Aim.{Aim}
use Rattle.uc_proof.specs.declared.part.Part.{Part}
use Rattle.uc_proof.specs.Parts.{part_of}
use Rattle.uc_proof.specs.Written.{IsStepFor, AreStepsFor, IsWritten, AreWritten}
use Rattle.uc_proof.specs.Making.{IsAmong, IsNamedPart, AreInside, IsReady}

-- steps gone back
pub last_of_more : (u : Tree) (ss : List Step) (s : Step) → last_term u (ss ++ s ∷ []) ≡ s.to
last_of_more u [] s = refl
last_of_more u (r ∷ ss) s = last_of_more r.to ss s

pub before_last : (u : Tree) (ss : List Step) (n k : ℕ) (d : Step) → n ≡ k + 1 → k < length ss → (get_or ss k d).to ≡ last_term u (take n ss)
before_last u ss n k d e h = sym (ap (λ m. last_term u (take m ss)) e ∙ ap (last_term u) (take_more ss k d h) ∙ last_of_more u (take k ss) (get_or ss k d))

pub back_last : (u : Tree) (ss : List Step) (s : Step) → steps_back u (ss ++ s ∷ []) ≡ step_back (last_term u ss) s ∷ steps_back u ss
back_last u [] s = refl
back_last u (r ∷ ss) s = ap (λ l. l ++ step_back u r ∷ []) (back_last r.to ss s)

pub pushed_back : (u : Tree) (forth : List Step) (k : ℕ) (d s : Step) (all now next : List Step) (t : Tree) (b : Step) → k < length forth → s ≡ get_or forth k d → now ++ steps_back u (take (k + 1) forth) ≡ all → t ≡ last_term u (take k forth) → b ≡ step_back t s → next ≡ now ++ b ∷ [] → next ++ steps_back u (take k forth) ≡ all
pushed_back u forth k d s all now next t b h is e at made pushed =
    let more : take (k + 1) forth ≡ take k forth ++ s ∷ [] = take_more forth k d h ∙ ap (λ y. take k forth ++ y ∷ []) (sym is) in
    let own : b ≡ step_back (last_term u (take k forth)) s = made ∙ ap (λ x. step_back x s) at in
    ap (λ l. l ++ steps_back u (take k forth)) pushed
    ∙ append_assoc now (b ∷ []) (steps_back u (take k forth))
    ∙ ap (λ (x : Step). now ++ x ∷ steps_back u (take k forth)) own
    ∙ ap (λ l. now ++ l) (sym (ap (steps_back u) more ∙ back_last u (take k forth) s))
    ∙ e

-- steps of a line
pub record Writing (plan : List Part) (start : Tree) (steps : List Step) (before : Tree) (i : ℕ) (written : List LineStep) : Type 0 where
  pub done : (ws : List LineStep) → AreStepsFor plan before (drop i steps) ws → AreStepsFor plan start steps (written ++ ws)
  pub named : (p : Part) → IsNamedPart (drop i steps) p → IsAmong p plan
  pub inside : AreInside before (drop i steps)

pub writing_begins : (plan : List Part) (chain : Chain) (steps : List Step) (written : List LineStep) → IsReady plan chain → steps ≡ chain.steps → written ≡ [] → Writing plan chain.start steps chain.start 0 written
writing_begins plan chain steps written r e w = record {
  done = λ ws h. subst (λ (l : List LineStep). AreStepsFor plan chain.start steps (l ++ ws)) (sym w) h;
  named = λ p h. r.named p (subst (λ (ss : List Step). IsNamedPart ss p) e h);
  inside = subst (AreInside chain.start) (sym e) r.inside;
}

module _ (plan : List Part) (start : Tree) (steps : List Step) (before : Tree) (i : ℕ) (written : List LineStep) (step : Step) (w : Writing plan start steps before i written) (at : drop i steps ≡ step ∷ drop (i + 1) steps) where
  pub named_here : IsAmong (part_of step.by) plan
  named_here = w.named (part_of step.by) (subst (λ (ss : List Step). IsNamedPart ss (part_of step.by)) (sym at) (inl refl))

  pub inside_here : step.position.0 < nodes before
  inside_here = (subst (AreInside before) at w.inside).0

  pub writing_on : (line_step : LineStep) (next : List LineStep) → IsStepFor plan before step line_step → next ≡ written ++ line_step ∷ [] → Writing plan start steps step.to (i + 1) next
  writing_on line_step next s e = record {
    done = λ ws h.
        subst (AreStepsFor plan start steps) (sym (ap (λ l. l ++ ws) e ∙ append_assoc written (line_step ∷ []) ws))
        (w.done (line_step ∷ ws) (subst (λ (ss : List Step). AreStepsFor plan before ss (line_step ∷ ws)) (sym at) (s, h)));
    named = λ p h. w.named p (subst (λ (ss : List Step). IsNamedPart ss p) (sym at) (inr h));
    inside = (subst (AreInside before) at w.inside).1;
  }

pub writing_ends : (plan : List Part) (start : Tree) (steps : List Step) (before : Tree) (i : ℕ) (written : List LineStep) → Writing plan start steps before i written → drop i steps ≡ [] → AreStepsFor plan start steps written
writing_ends plan start steps before i written w e = subst (AreStepsFor plan start steps) (append-nil written) (w.done [] (subst (λ (ss : List Step). AreStepsFor plan before ss []) (sym e) tt))

-- parents
abbrev pub bys : List LineStep → List ℕ
bys steps = map (λ (s : LineStep). s.by) steps

pub parent_seen : (steps : List LineStep) (i : ℕ) (step d : LineStep) (xs ys : List ℕ) → i < length steps → step ≡ get_or steps i d → xs ≡ firsts (bys (take i steps)) → ys ≡ (if list_any (λ y. step.by == y) xs then xs else xs ++ step.by ∷ []) → ys ≡ firsts (bys (take (i + 1) steps))
parent_seen steps i step d xs ys h is e f =
    let more : bys (take (i + 1) steps) ≡ bys (take i steps) ++ step.by ∷ [] =
    ap bys (take_more steps i d h ∙ ap (λ y. take i steps ++ y ∷ []) (sym is)) ∙ map-append (λ (s : LineStep). s.by) (take i steps) (step ∷ []) in
    added ∙ ap (λ l. l ++ firsts_after l (step.by ∷ [])) e ∙ sym (firsts-append (bys (take i steps)) (step.by ∷ [])) ∙ ap firsts (sym more)
  where
    go : (b : Bool) → is_among step.by xs ≡ b → (if b then xs else xs ++ step.by ∷ []) ≡ xs ++ firsts_after xs (step.by ∷ [])
    go true a = known_adds_none xs step.by a
    go false a = new_adds_one xs step.by a

    added : ys ≡ xs ++ firsts_after xs (step.by ∷ [])
    added = f ∙ ap (λ b. if b then xs else xs ++ step.by ∷ []) (list_any-among step.by xs) ∙ go (is_among step.by xs) refl

-- lines
module _ (problem : Problem) (enc : Encoded) (facts : List Fact) (aimed : Aim) (plan : List Part) where
  written_more : (k : ℕ) (ps : List Part) (ls : List Line) (p : Part) (line : Line) → AreWritten problem enc facts aimed plan k ps ls → IsWritten problem enc facts aimed plan (k + length ps) p line → AreWritten problem enc facts aimed plan k (ps ++ p ∷ []) (ls ++ line ∷ [])
  written_more k [] [] p line w h = (let q : k + 0 ≡ k = omega arith in subst (λ (n : ℕ). IsWritten problem enc facts aimed plan n p line) q h, tt)
  written_more k [] (l ∷ ls) p line w h = absurd w
  written_more k (q ∷ ps) [] p line w h = absurd w
  written_more k (q ∷ ps) (l ∷ ls) p line w h =
      let e : k + suc (length ps) ≡ k + 1 + length ps = omega arith in
      (w.0, written_more (k + 1) ps ls p line w.1 (subst (λ (n : ℕ). IsWritten problem enc facts aimed plan n p line) e h))

  take_length : (ps : List Part) (i : ℕ) → i ≤ length ps → length (take i ps) ≡ i
  take_length ps zero h = refl
  take_length [] (suc i) h = absurd (omega arith)
  take_length (p ∷ ps) (suc i) h = ap suc (take_length ps i (omega arith))

  pub written_on : (ps : List Part) (i : ℕ) (p d : Part) (ls next : List Line) (line : Line) → i < length ps → p ≡ get_or ps i d → AreWritten problem enc facts aimed plan 0 (take i ps) ls → IsWritten problem enc facts aimed plan i p line → next ≡ ls ++ line ∷ [] → AreWritten problem enc facts aimed plan 0 (take (i + 1) ps) next
  written_on ps i p d ls next line h is w one e =
      let more : take (i + 1) ps ≡ take i ps ++ p ∷ [] = take_more ps i d h ∙ ap (λ y. take i ps ++ y ∷ []) (sym is) in
      let n : i ≡ 0 + length (take i ps) = let l = take_length ps i (omega arith) in omega (arith, l) in
      subst (λ (l : List Line). AreWritten problem enc facts aimed plan 0 (take (i + 1) ps) l) (sym e)
      (subst (λ (q : List Part). AreWritten problem enc facts aimed plan 0 q (ls ++ line ∷ [])) (sym more) (written_more 0 (take i ps) ls p line w (subst (λ (m : ℕ). IsWritten problem enc facts aimed plan m p line) n one)))
