-- Steps of a chain, one after another.
use Rattle.std.proofs.Common.{◌≡◌, ℕ, zero, suc, ◌+◌, ◌-◌, ◌<◌, ◌≤◌, Bool, true, List, [], ◌∷◌, length, drop, get_or, slice_get, Some, Result, Ok, Err, refl, sym, ap, ◌∙◌, subst, arith}
use Rattle.std.proofs.lemmas.List.{drop_more}
use Rattle.std.proofs.lemmas.Option.{slice_get_within}
use Rattle.uc_term.specs.Tree.{Tree, apply, subterm, put}
use Rattle.uc_term.specs.Positions.{IsPlaceOf}
use Rattle.uc_unify.specs.Replacing.{ReplacesAt}
use Rattle.uc_check.specs.declared.proof.Line.{Line}
use Rattle.uc_check.specs.declared.proof.LineStep.{LineStep}
use Rattle.uc_check.specs.declared.checker.Cause.{Cause}
use Rattle.uc_check.specs.declared.checker.Cause.TheVariants.{NotEarlier, NotAReplacement}
use Rattle.uc_check.specs.Replacements.{IsRefutation, from_side, to_side, IsReplacement, Leads, chain_end}
use Rattle.uc_check.specs.Tests.{passes, fails}

-- a replacement by the named line is one at the place that the position names
module _ (lines : List Line) (before : Tree) (step : LineStep) (line : Line) (line_is : slice_get lines step.by ≡ Some line) (positive : line.positive ≡ true) (equation : IsRefutation line.source → ⊥) (place : ℕ) (at : IsPlaceOf before step.path place) (way : Bool) (way_is : step.left_to_right ≡ way) where
  pub replacement_of : ReplacesAt (from_side way line) (to_side way line) before place step.to → IsReplacement lines before step
  replacement_of r = record {
    line = line;
    line_is = line_is;
    positive = positive;
    equation = equation;
    part = subterm before place;
    part_is = at.there;
    σ = r.σ;
    from_is = ap (λ b. apply r.σ (from_side b line)) way_is ∙ r.from_is;
    to_is = sym (at.puts (apply r.σ (to_side step.left_to_right line))) ∙ ap (λ b. put before place (apply r.σ (to_side b line))) way_is ∙ r.to_is;
  }

  pub replaces_of : IsReplacement lines before step → ReplacesAt (from_side way line) (to_side way line) before place step.to
  replaces_of r =
      let same : line ≡ r.line = let p = line_is in let q = r.line_is in cc in
      let part : r.part ≡ subterm before place = let p = r.part_is in let q = at.there in cc in
      record {
        inside = at.inside;
        σ = r.σ;
        from_is = ap (λ l. apply r.σ (from_side way l)) same ∙ ap (λ b. apply r.σ (from_side b r.line)) (sym way_is) ∙ r.from_is ∙ part;
        to_is = ap (λ l. put before place (apply r.σ (to_side way l))) same ∙ ap (λ b. put before place (apply r.σ (to_side b r.line))) (sym way_is) ∙ at.puts (apply r.σ (to_side step.left_to_right r.line)) ∙ r.to_is;
      }

pub step_at : (steps : List LineStep) (i : ℕ) (step : LineStep) → i < length steps → step ≡ get_or steps i step → drop i steps ≡ step ∷ drop (i + 1) steps
step_at steps i step h e = drop_more steps i step h ∙ ap (λ s. s ∷ drop (i + 1) steps) (sym e)

-- what steps come to from one term on they come to from the start on
abbrev pub Back : List Line → ℕ → Tree → List LineStep → Tree → List LineStep → Type 0
Back lines k before rest start steps = (end : Result Tree Cause) → Leads lines k before rest end → Leads lines k start steps end

module _ (lines : List Line) (k : ℕ) (start before : Tree) (steps rest behind : List LineStep) (step : LineStep) (back : Back lines k before rest start steps) (at : rest ≡ step ∷ behind) where
  pub stops_early : k ≤ step.by → Leads lines k start steps (Err NotEarlier)
  stops_early h = back (Err NotEarlier) (subst (λ (l : List LineStep). Leads lines k before l (Err NotEarlier)) (sym at) (fails (λ b. absurd (omega arith))))

  pub stops_wrong : step.by < k → (IsReplacement lines before step → ⊥) → Leads lines k start steps (Err NotAReplacement)
  stops_wrong h n = back (Err NotAReplacement) (subst (λ (l : List LineStep). Leads lines k before l (Err NotAReplacement)) (sym at) (passes h (fails n)))

  pub steps_on : step.by < k → IsReplacement lines before step → Back lines k step.to behind start steps
  steps_on h r end l = back end (subst (λ (s : List LineStep). Leads lines k before s end) (sym at) (passes h (passes r l)))

pub all_stepped : (lines : List Line) (k : ℕ) (start before : Tree) (steps rest : List LineStep) → Back lines k before rest start steps → rest ≡ [] → chain_end start steps ≡ chain_end before rest → Leads lines k start steps (Ok (chain_end start steps))
all_stepped lines k start before steps rest back none same =
    let end : before ≡ chain_end start steps = sym (same ∙ ap (chain_end before) none) in
    subst (λ (t : Tree). Leads lines k start steps (Ok t)) end (back (Ok before) (subst (λ (s : List LineStep). Leads lines k before s (Ok before)) (sym none) refl))

-- the last step's term is the chain's last term
ends_at : (start : Tree) (steps : List LineStep) (n : ℕ) (step : LineStep) → n + 1 ≡ length steps → slice_get steps n ≡ Some step → step.to ≡ chain_end start steps
ends_at start [] n step h e = absurd cc
ends_at start (s ∷ []) zero step h e = ap (λ (x : LineStep). x.to) (let q : step ≡ s = cc in q)
ends_at start (s ∷ t ∷ ss) zero step h e = absurd (omega arith)
ends_at start (s ∷ ss) (suc n) step h e = ends_at s.to ss n step (omega arith) e

pub last_is_end : (start : Tree) (steps : List LineStep) (step : LineStep) → Some step ≡ slice_get steps (length steps - 1) → step.to ≡ chain_end start steps
last_is_end start steps step e =
    let inside = slice_get_within steps (length steps - 1) step (sym e) in
    ends_at start steps (length steps - 1) step (omega arith) (sym e)
